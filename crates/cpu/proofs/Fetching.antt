-- The fetch of an instruction, before the program of its operation.
use Rattle.std.proofs.Common.{◌≡◌, ℕ, ◌<◌, ltb, [], ◌∷◌, Some, Ok, Err, Result, sym, ap, ◌∙◌}
use Rattle.std.proofs.lemmas.Bool.{cond-true, lt-ltb}
use Rattle.names.specs.Times.{time_of}
use Rattle.word.specs.declared.word.Word.{Word}
use Rattle.cpu.specs.declared.fault.Fault.{Fault}
use Rattle.cpu.specs.declared.operation.Operation.{Operation}
use Rattle.cpu.specs.declared.registers.Registers.{Registers}
use Rattle.cpu.specs.declared.step.Step.{Step}
use Rattle.cpu.specs.Decoding.{code_in, decoded, field_in, number_m}
use Rattle.cpu.specs.Executed.{Executes}
use Rattle.cpu.specs.Instructions.{instruction, program, program_of}
use Rattle.cpu.specs.Programs.{Memory, Program, memory_after, outcome_of, reads_of, takes_j, writes_of}
use Rattle.cpu.specs.Programs.Program.{read}

-- the program of an instruction's word
of_word : Registers → Word → Program
of_word r w = program_of r w (number_m r w) (decoded (code_in w) (field_in w))

of_instruction : (r : Registers) → r.location < 4000 → instruction r ≡ read r.location (of_word r)
unfolding instruction of_word
of_instruction r h = cond-true (ltb r.location 4000) _ _ (lt-ltb r.location 4000 h)

of_parts : (r : Registers) (w x : Word) (p : Operation) (t : ℕ) → number_m r w ≡ Some x → decoded (code_in w) (field_in w) ≡ Some p → t ≡ time_of (code_in w) (field_in w)
    → of_word r w ≡ program (record { registers = r; time = t; sign = w.sign; m = x }) p
unfolding of_word
of_parts r w x p t a b c =
    (λ i. program_of r w (a i) (b i)) ∙ ap (λ (n : ℕ). program (record { registers = r; time = n; sign = w.sign; m = x }) p) (sym c)

-- a program that reads a word first
after_read : (p q : Program) (f : Word → Program) (k : ℕ) (j : Word) (r r′ : Registers) (m m′ : Memory) (s : Result Step Fault) → p ≡ read k f → f (m k) ≡ q → Executes q [] j r m r′ m′ s → Executes p (k ∷ []) j r m r′ m′ s
after_read p q f k j r r′ m m′ (Ok s) e g d =
    record {
      outcome = ap (λ u. outcome_of u m) e ∙ ap (λ u. outcome_of u m) g ∙ d.outcome;
      memory = ap (λ u. memory_after u j m) e ∙ ap (λ u. memory_after u j m) g ∙ d.memory;
      reads = ap (λ u. reads_of u m) e ∙ ap (λ u. k ∷ reads_of u m) g ∙ ap (λ ls. k ∷ ls) d.reads;
      writes = ap (λ u. writes_of u m) e ∙ ap (λ u. writes_of u m) g ∙ d.writes;
      takes = ap (λ u. takes_j u m) e ∙ ap (λ u. takes_j u m) g ∙ d.takes;
      stays = d.stays;
    }
after_read p q f k j r r′ m m′ (Err x) e g d = (ap (λ u. outcome_of u m) e ∙ ap (λ u. outcome_of u m) g ∙ d.0, d.1, d.2)

-- the instruction at the location, whose parts are known
pub fetched : (r r′ : Registers) (m m′ : Memory) (w x : Word) (p : Operation) (t : ℕ) (j : Word) (s : Result Step Fault) → r.location < 4000 → w ≡ m r.location → number_m r w ≡ Some x → decoded (code_in w) (field_in w) ≡ Some p → t ≡ time_of (code_in w) (field_in w)
    → Executes (program (record { registers = r; time = t; sign = w.sign; m = x }) p) [] j r m r′ m′ s
    → Executes (instruction r) (r.location ∷ []) j r m r′ m′ s
fetched r r′ m m′ w x p t j s h e a b c d =
    after_read (instruction r) _ (of_word r) r.location j r r′ m m′ s (of_instruction r h) (ap (of_word r) (sym e) ∙ of_parts r w x p t a b c) d
