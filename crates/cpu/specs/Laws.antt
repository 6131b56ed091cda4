-- Laws of decoding and of instructions.
use Rattle.std.specs.Prelude.{◌≡◌, ◌≢◌, ℕ, ◌/◌, ◌%◌, ◌<◌, ◌≤◌, Bool, true, ◌&&◌, ◌||◌, List, [], ◌∷◌, None, ◌==◌, nat_le, pos, ◌<ℤ◌, Decides, ⊤}
use Rattle.std.specs.List.{AllByRecursion}
use Rattle.std.specs.Option.{is_some}
use Rattle.word.specs.declared.word.Word.{Word}
use Rattle.word.specs.Word.{bytes_of, value}
use Rattle.cpu.specs.declared.registers.Registers.{Registers}
use Rattle.cpu.specs.Decoding.{address_in, code_in, decoded, field_in, index_in}
use Rattle.cpu.specs.Instructions.{instruction, is_negative, is_positive}
use Rattle.cpu.specs.Programs.{Memory, Outcome, Program, memory_after, outcome_of, reads_of, takes_j, writes_of}
use Rattle.cpu.specs.Programs.Outcome.{fails, goes, halts, issues, tests, waits}

-- NOP, MOVE, and the operations on units
abbrev pub takes_any : ℕ → Bool
takes_any c = c == 0 || (c == 7 || (nat_le 34 c && nat_le c 38))

pub record InstructionParts (w : Word) : Type 0 where
  -- bytes 1 and 2 are the address, byte 3 the index, byte 4 F and byte 5 C
  pub bytes : bytes_of w ≡ (address_in w).magnitude / 64 ∷ (address_in w).magnitude % 64 ∷ index_in w ∷ field_in w ∷ code_in w ∷ []
  pub sign : (address_in w).sign ≡ w.sign

-- what an instruction may take, by what comes of it
abbrev pub Timed : Outcome → Type 0
Timed (goes t w) = (1 ≤ t) × (t ≤ 127)
Timed (tests t u b n) = t ≡ 1
Timed (waits t u r) = t ≡ 1
Timed (issues t u x m r) = t ≡ 1
Timed (halts t r) = t ≡ 10
Timed (fails f) = ⊤

-- two memories agree at locations
abbrev pub Agree : List ℕ → Memory → Memory → Type 0
Agree ks m m′ = AllByRecursion (λ k. m k ≡ m′ k) ks

-- a program does the same with two memories, j and j′ being the words of J
pub record Alike (p : Program) (j j′ : Word) (m m′ : Memory) : Type 0 where
  pub outcome : outcome_of p m ≡ outcome_of p m′
  pub reads : reads_of p m ≡ reads_of p m′
  pub writes : writes_of p m ≡ writes_of p m′
  pub takes : takes_j p m ≡ takes_j p m′
  -- what is written is the same, and so is what was the same
  pub written : (takes_j p m ≡ true → j ≡ j′) → Agree (writes_of p m) (memory_after p j m) (memory_after p j′ m′)
  pub kept : (takes_j p m ≡ true → j ≡ j′) → (k : ℕ) → m k ≡ m′ k → memory_after p j m k ≡ memory_after p j′ m′ k

pub record InstructionLaws : Type 0 where
  -- each C from 0 to 63 takes some F
  pub each_code : (c : ℕ) → c < 64 → (f : ℕ) × (f < 64) × (is_some (decoded c f) ≡ true)
  -- these take any F
  pub any_field : (c f : ℕ) → takes_any c ≡ true → is_some (decoded c f) ≡ true
  -- there is no other C
  pub no_code : (c f : ℕ) → 64 ≤ c → decoded c f ≡ None
  -- -0 is not below 0, and not above
  pub negative : (w : Word) → Decides (is_negative w) (value w <ℤ pos 0)
  pub positive : (w : Word) → Decides (is_positive w) (pos 0 <ℤ value w)
  pub parts : (w : Word) → InstructionParts w
  pub timed : (r : Registers) (m : Memory) → Timed (outcome_of (instruction r) m)
  -- what comes of a program depends on the words that it reads, and on J if it takes J
  pub alike : (p : Program) (j j′ : Word) (m m′ : Memory) → Agree (reads_of p m) m m′ → Alike p j j′ m m′
  -- no word changes but those that it writes
  pub unwritten : (p : Program) (j : Word) (m : Memory) (k : ℕ) → AllByRecursion (λ i. i ≢ k) (writes_of p m) → memory_after p j m k ≡ m k
