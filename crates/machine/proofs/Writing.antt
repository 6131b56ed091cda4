-- Which instructions write memory, and where.
use Rattle.std.proofs.Common.{◌≡◌, ℕ, zero, suc, ◌+◌, ◌<◌, ◌≤◌, Bool, true, false, cond, nat_lt, Some, None, Ok, Err, Option, Result, refl, arith}
use Rattle.std.specs.List.{AllByRecursion}
use Rattle.arith.specs.declared.pair.Pair.{Pair}
use Rattle.names.specs.Times.{time_of}
use Rattle.cpu.specs.Decoding.{code_in, decoded, field_in, number_m}
use Rattle.cpu.specs.Instructions.{Order, adjusting, at, dividing, instruction, jump_if, jump_to, jumping, loading, located, location_of, moving, program, program_of, taking, testing}
use Rattle.cpu.specs.Programs.{Memory, Program, Way, stored, writes_of}
use Rattle.cpu.specs.Programs.Program.{read, write, save, done}
use Rattle.cpu.specs.Programs.Outcome.{fails}
use Rattle.cpu.specs.Registers.{fits, held}
use Rattle.cpu.specs.declared.fault.Fault.{Fault}
use Rattle.cpu.specs.declared.fault.Fault.TheVariants.{Outside}
use Rattle.cpu.specs.declared.operation.Adjustment.{Adjustment}
use Rattle.cpu.specs.declared.operation.Adjustment.TheVariants.{Increase, Decrease, Enter, EnterNegative}
use Rattle.cpu.specs.declared.operation.Jump.{Jump}
use Rattle.cpu.specs.declared.operation.Jump.TheVariants.{Jmp, Jsj, Jov, Jnov, Jl, Je, Jg, Jge, Jne, Jle}
use Rattle.cpu.specs.declared.operation.Operation.{Operation}
use Rattle.cpu.specs.declared.operation.Operation.TheVariants.{Nothing, Add, Subtract, Multiply, Divide, Halt, ShiftBytes, MoveWords, Load, LoadNegative, Store, StoreJ, StoreZero, JumpBusy, Control, Input, Output, JumpReady, JumpIf, JumpOn, Adjust, Compare}
use Rattle.cpu.specs.declared.register.Register.{Register}
use Rattle.cpu.specs.declared.register.Register.TheVariants.{I1}
use Rattle.cpu.specs.declared.registers.Registers.{Registers}
use Rattle.rack.specs.declared.unit.Unit.{Unit as Device}
use Rattle.word.specs.declared.sign.Sign.TheVariants.{Plus}
use Rattle.word.specs.declared.word.Word.{Word}
use Rattle.word.specs.Word.{word_of}
use Rattle.machine.specs.Laws.{MayStore, MayWrite}

-- a program writes only where a property holds
module _ (P : ℕ → Type 0) where
  record Only (p : Program) : Type 0 where
    only : (m : Memory) → AllByRecursion P (writes_of p m)

  only_done : (z : _) → Only (done z)
  only_done z = record { only = λ m. tt }

  only_read : (l : ℕ) (f : Word → Program) → ((w : Word) → Only (f w)) → Only (read l f)
  only_read l f h = record { only = λ m. (h (m l)).only m }

  only_write : (l : ℕ) (w : Word) (p : Program) → P l → Only p → Only (write l w p)
  only_write l w p g h = record { only = λ m. (g, h.only (stored m l w)) }

  only_save : (l : ℕ) (f : Word → Word) (t : ℕ) (w : Way) → P l → Only (save l f t w)
  only_save l f t w g = record { only = λ m. (g, tt) }

  only_cond : (b : Bool) (p q : Program) → Only p → Only q → Only (cond b p q)
  only_cond true p q h g = h
  only_cond false p q h g = g

  only_at : (w : Word) (f : ℕ → Program) → ((l : ℕ) → location_of w ≡ Some l → Only (f l)) → Only (at w f)
  only_at w f h = go (location_of w) refl
    where
      go : (l : Option ℕ) → location_of w ≡ l → Only (located w f l)
      go None e = only_done _
      go (Some l) e = h l e

  only_moving : (n l k : ℕ) (p : Program) → ((i : ℕ) → k ≤ i → i < k + n → P i) → Only p → Only (moving n l k p)
  only_moving zero l k p g h = h
  only_moving (suc n) l k p g h =
      only_cond (nat_lt l 4000) _ _
      (only_read l _ (λ w. only_cond (nat_lt k 4000) _ _
      (only_write k w _ (g k (omega arith) (omega arith)) (only_moving n (suc l) (suc k) p (λ i a b. g i (omega arith) (omega arith)) h))
      (only_done _)))
      (only_done _)

  module _ (o : Order) where
    only_dividing : (p : Option Pair) → Only (dividing o p)
    only_dividing None = only_done _
    only_dividing (Some p) = only_done _

    only_loading : (k : Register) (w : Word) (r : Registers) → Only (loading o k w r)
    only_loading k w r = only_cond (fits k w) _ _ (only_done _) (only_done _)

    only_taking : (t : ℕ) (w : Result Way Fault) → Only (taking t w)
    only_taking t (Ok w) = only_done _
    only_taking t (Err f) = only_done _

    only_jumping : (b : Bool) (r : Registers) → Only (jumping o b r)
    only_jumping b r = only_cond b _ _ (only_taking o.time (jump_to o.m r)) (only_done _)

    only_jump_if : (j : Jump) → Only (jump_if o j)
    only_jump_if Jmp = only_jumping true o.registers
    only_jump_if Jsj = only_at o.m _ (λ l e. only_done _)
    only_jump_if Jov = only_jumping _ _
    only_jump_if Jnov = only_jumping _ _
    only_jump_if Jl = only_jumping _ _
    only_jump_if Je = only_jumping _ _
    only_jump_if Jg = only_jumping _ _
    only_jump_if Jge = only_jumping _ _
    only_jump_if Jne = only_jumping _ _
    only_jump_if Jle = only_jumping _ _

    only_adjusting : (k : Register) (a : Adjustment) → Only (adjusting o k a)
    only_adjusting k Increase = only_loading k _ _
    only_adjusting k Decrease = only_loading k _ _
    only_adjusting k Enter = only_loading k _ _
    only_adjusting k EnterNegative = only_loading k _ _

    only_testing : (u : Device) (b : Bool) → Only (testing o u b)
    only_testing u true = only_done _
    only_testing u false = only_done _

    only_operand : (f : ℕ → Word → Program) → ((l : ℕ) (v : Word) → Only (f l v)) → Only (at o.m (λ l. read l (f l)))
    only_operand f h = only_at o.m _ (λ l e. only_read l (f l) (h l))

-- the operations
stores_only : (o : Order) (p : Operation) → Only (MayStore o.registers o.m p) (program o p)
stores_only o Nothing = only_done _ _
stores_only o (Add f) = only_operand _ o _ (λ l v. only_done _ _)
stores_only o (Subtract f) = only_operand _ o _ (λ l v. only_done _ _)
stores_only o (Multiply f) = only_operand _ o _ (λ l v. only_done _ _)
stores_only o (Divide f) = only_operand _ o _ (λ l v. only_dividing _ o _)
stores_only o Halt = only_done _ _
stores_only o (ShiftBytes s) = only_cond _ _ _ _ (only_done _ _) (only_done _ _)
stores_only o (MoveWords zero) = only_done _ _
stores_only o (MoveWords (suc n)) =
    only_at _ o.m _ (λ l e. only_at _ (held o.registers I1) _ (λ k i. only_moving _ (suc n) l k _ (λ j a b. (k, i, a, b)) (only_done _ _)))
stores_only o (Load k f) = only_operand _ o _ (λ l v. only_loading _ o k _ _)
stores_only o (LoadNegative k f) = only_operand _ o _ (λ l v. only_loading _ o k _ _)
stores_only o (Store k f) = only_at _ o.m _ (λ l e. only_read _ l _ (λ w. only_write _ l _ _ e (only_done _ _)))
stores_only o (StoreJ f) = only_at _ o.m _ (λ l e. only_read _ l _ (λ w. only_save _ l _ _ _ e))
stores_only o (StoreZero f) = only_at _ o.m _ (λ l e. only_read _ l _ (λ w. only_write _ l _ _ e (only_done _ _)))
stores_only o (JumpBusy u) = only_cond _ _ _ _ (only_done _ _) (only_testing _ o u true)
stores_only o (Control u) = only_done _ _
stores_only o (Input u) = only_done _ _
stores_only o (Output u) = only_done _ _
stores_only o (JumpReady u) = only_testing _ o u false
stores_only o (JumpIf j) = only_jump_if _ o j
stores_only o (JumpOn k t) = only_jumping _ o _ _
stores_only o (Adjust k a) = only_adjusting _ o k a
stores_only o (Compare k f) = only_operand _ o _ (λ l v. only_done _ _)

of_parts : (r : Registers) (w : Word) (n : Option Word) (p : Option Operation) → Only (MayWrite r n p) (program_of r w n p)
of_parts r w None p = only_done _ _
of_parts r w (Some n) None = only_done _ _
of_parts r w (Some n) (Some p) = stores_only (record { registers = r; time = time_of (code_in w) (field_in w); sign = w.sign; m = n }) p

pub writes_law : (r : Registers) (m : Memory) → AllByRecursion (MayWrite r (number_m r (m r.location)) (decoded (code_in (m r.location)) (field_in (m r.location)))) (writes_of (instruction r) m)
unfolding instruction
writes_law r m = go (nat_lt r.location 4000)
  where
    go : (b : Bool) → AllByRecursion (MayWrite r (number_m r (m r.location)) (decoded (code_in (m r.location)) (field_in (m r.location))))
        (writes_of (cond b (read r.location (λ w. program_of r w (number_m r w) (decoded (code_in w) (field_in w)))) (done (fails (Outside (word_of Plus r.location))))) m)
    go true = (of_parts r (m r.location) (number_m r (m r.location)) (decoded (code_in (m r.location)) (field_in (m r.location)))).only m
    go false = tt
