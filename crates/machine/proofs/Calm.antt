-- An instruction that does not go on leaves memory as it was.
use Rattle.std.proofs.Common.{◌≡◌, ℕ, zero, suc, Bool, true, false, cond, nat_lt, Option, Some, None, Ok, Err, Result, refl}
use Rattle.std.specs.Prelude.{⊤}
use Rattle.arith.specs.declared.pair.Pair.{Pair}
use Rattle.names.specs.Times.{time_of}
use Rattle.cpu.specs.Decoding.{code_in, field_in, number_m, decoded}
use Rattle.cpu.specs.Instructions.{Order, instruction, program_of, program, at, located, location_of, dividing, moving, loading, jump_if, jumping, jump_to, taking, testing, adjusting}
use Rattle.cpu.specs.Programs.{Memory, Outcome, Program, Way, stored, outcome_of, memory_after}
use Rattle.cpu.specs.Programs.Program.{read, write, save, done}
use Rattle.cpu.specs.Programs.Outcome.{goes, tests, waits, issues, halts, fails}
use Rattle.cpu.specs.Registers.{held, fits}
use Rattle.cpu.specs.declared.fault.Fault.{Fault}
use Rattle.cpu.specs.declared.fault.Fault.TheVariants.{Outside}
use Rattle.cpu.specs.declared.operation.Adjustment.{Adjustment}
use Rattle.cpu.specs.declared.operation.Adjustment.TheVariants.{Increase, Decrease, Enter, EnterNegative}
use Rattle.cpu.specs.declared.operation.Jump.{Jump}
use Rattle.cpu.specs.declared.operation.Jump.TheVariants.{Jmp, Jsj, Jov, Jnov, Jl, Je, Jg, Jge, Jne, Jle}
use Rattle.cpu.specs.declared.operation.Operation.{Operation}
use Rattle.cpu.specs.declared.operation.Operation.TheVariants.{Nothing, Add, Subtract, Multiply, Divide, Halt, ShiftBytes, MoveWords, Load, LoadNegative, Store, StoreJ, StoreZero, JumpBusy, Control, Input, Output, JumpReady, JumpIf, JumpOn, Adjust, Compare}
use Rattle.cpu.specs.declared.register.Register.{Register}
use Rattle.cpu.specs.declared.register.Register.TheVariants.{I1}
use Rattle.cpu.specs.declared.registers.Registers.{Registers}
use Rattle.rack.specs.declared.unit.Unit.{Unit as Device}
use Rattle.word.specs.declared.sign.Sign.TheVariants.{Plus}
use Rattle.word.specs.declared.word.Word.{Word}
use Rattle.word.specs.Word.{word_of}

-- memory is as it was, but where the program goes on or is rejected
abbrev pub Calm : Outcome → Memory → Memory → Type 0
Calm (goes t w) m n = ⊤
Calm (tests t u busy free) m n = n ≡ m
Calm (waits t u r) m n = n ≡ m
Calm (issues t u x v r) m n = n ≡ m
Calm (halts t r) m n = n ≡ m
Calm (fails f) m n = ⊤

abbrev Going : Outcome → Type 0
Going (goes t w) = ⊤
Going (tests t u busy free) = ⊥
Going (waits t u r) = ⊥
Going (issues t u x v r) = ⊥
Going (halts t r) = ⊥
Going (fails f) = ⊤

calm_same : (z : Outcome) (m : Memory) → Calm z m m
calm_same (goes t w) m = tt
calm_same (tests t u busy free) m = refl
calm_same (waits t u r) m = refl
calm_same (issues t u x v r) m = refl
calm_same (halts t r) m = refl
calm_same (fails f) m = tt

calm_going : (z : Outcome) (m n : Memory) → Going z → Calm z m n
calm_going (goes t w) m n g = tt
calm_going (tests t u busy free) m n g = absurd g
calm_going (waits t u r) m n g = absurd g
calm_going (issues t u x v r) m n g = absurd g
calm_going (halts t r) m n g = absurd g
calm_going (fails f) m n g = tt

record Fine (p : Program) : Type 0 where
  calm : (j : Word) (m : Memory) → Calm (outcome_of p m) m (memory_after p j m)

fine_done : (z : Outcome) → Fine (done z)
fine_done z = record { calm = λ j m. calm_same z m }

fine_read : (l : ℕ) (f : Word → Program) → ((w : Word) → Fine (f w)) → Fine (read l f)
fine_read l f h = record { calm = λ j m. (h (m l)).calm j m }

-- what is written is followed only by what goes on or is rejected
fine_write : (l : ℕ) (w : Word) (p : Program) → ((m : Memory) → Going (outcome_of p m)) → Fine (write l w p)
fine_write l w p g = record { calm = λ j m. calm_going (outcome_of p (stored m l w)) m (memory_after p j (stored m l w)) (g (stored m l w)) }

fine_save : (l : ℕ) (f : Word → Word) (t : ℕ) (w : Way) → Fine (save l f t w)
fine_save l f t w = record { calm = λ j m. tt }

fine_cond : (b : Bool) (p q : Program) → Fine p → Fine q → Fine (cond b p q)
fine_cond true p q h g = h
fine_cond false p q h g = g

fine_at : (w : Word) (f : ℕ → Program) → ((l : ℕ) → Fine (f l)) → Fine (at w f)
fine_at w f h = go (location_of w)
  where
    go : (l : Option ℕ) → Fine (located w f l)
    go None = fine_done _
    go (Some l) = h l

-- a word is read at M
fine_read_at : (w : Word) (f : ℕ → Word → Program) → ((l : ℕ) (v : Word) → Fine (f l v)) → Fine (at w (λ l. read l (f l)))
fine_read_at w f h = fine_at w _ (λ l. fine_read l (f l) (h l))

-- MOVE goes on or is rejected
moving_goes : (n l k : ℕ) (p : Program) → ((m : Memory) → Going (outcome_of p m)) → (m : Memory) → Going (outcome_of (moving n l k p) m)
moving_goes zero l k p g m = g m
moving_goes (suc n) l k p g m = go (nat_lt l 4000) (nat_lt k 4000) (moving_goes n (suc l) (suc k) p g (stored m k (m l)))
  where
    at_k : (b : Bool) → Going (outcome_of (moving n (suc l) (suc k) p) (stored m k (m l))) → Going (outcome_of (cond b (write k (m l) (moving n (suc l) (suc k) p)) (done (fails (Outside (word_of Plus k))))) m)
    at_k true h = h
    at_k false h = tt

    go : (a b : Bool) → Going (outcome_of (moving n (suc l) (suc k) p) (stored m k (m l)))
        → Going (outcome_of (cond a (read l (λ w. cond b (write k w (moving n (suc l) (suc k) p)) (done (fails (Outside (word_of Plus k)))))) (done (fails (Outside (word_of Plus l))))) m)
    go true b h = at_k b h
    go false b h = tt

fine_moving : (n l k : ℕ) (p : Program) → Fine p → ((m : Memory) → Going (outcome_of p m)) → Fine (moving n l k p)
fine_moving zero l k p h g = h
fine_moving (suc n) l k p h g =
    fine_cond (nat_lt l 4000) _ _
    (fine_read l _ (λ w. fine_cond (nat_lt k 4000) _ _ (fine_write k w _ (moving_goes n (suc l) (suc k) p g)) (fine_done _)))
    (fine_done _)

module _ (o : Order) where
  fine_dividing : (p : Option Pair) → Fine (dividing o p)
  fine_dividing None = fine_done _
  fine_dividing (Some p) = fine_done _

  fine_loading : (k : Register) (w : Word) (r : Registers) → Fine (loading o k w r)
  fine_loading k w r = fine_cond (fits k w) _ _ (fine_done _) (fine_done _)

  fine_taking : (w : Result Way Fault) → Fine (taking o.time w)
  fine_taking (Ok w) = fine_done _
  fine_taking (Err f) = fine_done _

  fine_jumping : (b : Bool) (r : Registers) → Fine (jumping o b r)
  fine_jumping b r = fine_cond b _ _ (fine_taking (jump_to o.m r)) (fine_done _)

  fine_jump_if : (j : Jump) → Fine (jump_if o j)
  fine_jump_if Jmp = fine_jumping true o.registers
  fine_jump_if Jsj = fine_at o.m _ (λ l. fine_done _)
  fine_jump_if Jov = fine_jumping _ _
  fine_jump_if Jnov = fine_jumping _ _
  fine_jump_if Jl = fine_jumping _ _
  fine_jump_if Je = fine_jumping _ _
  fine_jump_if Jg = fine_jumping _ _
  fine_jump_if Jge = fine_jumping _ _
  fine_jump_if Jne = fine_jumping _ _
  fine_jump_if Jle = fine_jumping _ _

  fine_adjusting : (k : Register) (a : Adjustment) → Fine (adjusting o k a)
  fine_adjusting k Increase = fine_loading k _ _
  fine_adjusting k Decrease = fine_loading k _ _
  fine_adjusting k Enter = fine_loading k _ _
  fine_adjusting k EnterNegative = fine_loading k _ _

  fine_testing : (u : Device) (b : Bool) → Fine (testing o u b)
  fine_testing u true = fine_done _
  fine_testing u false = fine_done _

  fine : (p : Operation) → Fine (program o p)
  fine Nothing = fine_done _
  fine (Add f) = fine_read_at o.m _ (λ l v. fine_done _)
  fine (Subtract f) = fine_read_at o.m _ (λ l v. fine_done _)
  fine (Multiply f) = fine_read_at o.m _ (λ l v. fine_done _)
  fine (Divide f) = fine_read_at o.m _ (λ l v. fine_dividing _)
  fine Halt = fine_done _
  fine (ShiftBytes s) = fine_cond _ _ _ (fine_done _) (fine_done _)
  fine (MoveWords zero) = fine_done _
  fine (MoveWords (suc n)) = fine_at o.m _ (λ l. fine_at (held o.registers I1) _ (λ k. fine_moving (suc n) l k _ (fine_done _) (λ m. tt)))
  fine (Load k f) = fine_read_at o.m _ (λ l v. fine_loading k _ _)
  fine (LoadNegative k f) = fine_read_at o.m _ (λ l v. fine_loading k _ _)
  fine (Store k f) = fine_read_at o.m _ (λ l v. fine_write l _ _ (λ m. tt))
  fine (StoreJ f) = fine_read_at o.m _ (λ l v. fine_save l _ _ _)
  fine (StoreZero f) = fine_read_at o.m _ (λ l v. fine_write l _ _ (λ m. tt))
  fine (JumpBusy u) = fine_cond _ _ _ (fine_done _) (fine_testing u true)
  fine (Control u) = fine_done _
  fine (Input u) = fine_done _
  fine (Output u) = fine_done _
  fine (JumpReady u) = fine_testing u false
  fine (JumpIf j) = fine_jump_if j
  fine (JumpOn k t) = fine_jumping _ _
  fine (Adjust k a) = fine_adjusting k a
  fine (Compare k f) = fine_read_at o.m _ (λ l v. fine_done _)

fine_of : (r : Registers) (w : Word) (n : Option Word) (p : Option Operation) → Fine (program_of r w n p)
fine_of r w None p = fine_done _
fine_of r w (Some n) None = fine_done _
fine_of r w (Some n) (Some p) = fine (record { registers = r; time = time_of (code_in w) (field_in w); sign = w.sign; m = n }) p

fine_instruction : (r : Registers) → Fine (instruction r)
unfolding instruction
fine_instruction r =
    fine_cond (nat_lt r.location 4000) _ _ (fine_read r.location _ (λ w. fine_of r w (number_m r w) (decoded (code_in w) (field_in w)))) (fine_done _)

pub calm : (r : Registers) (j : Word) (m : Memory) → Calm (outcome_of (instruction r) m) m (memory_after (instruction r) j m)
calm r j m = (fine_instruction r).calm j m
