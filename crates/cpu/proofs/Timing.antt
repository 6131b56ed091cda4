-- The times of all outcomes.
use Rattle.std.proofs.Common.{◌≡◌, ℕ, zero, suc, ◌/◌, Bool, true, false, not, cond, ltb, Some, None, Ok, Err, Option, Result, IfSome, refl, arith}
use Rattle.std.proofs.lemmas.Nat.{mod_below}
use Rattle.std.specs.Ordering.{is_lt, is_eq, is_gt, is_ge, is_ne, is_le}
use Rattle.arith.specs.declared.pair.Pair.{Pair}
use Rattle.arith.specs.Pairs.{quotient_of}
use Rattle.arith.specs.Sums.{sum_word}
use Rattle.names.specs.Times.{time_of}
use Rattle.word.specs.declared.field.Field.{Field}
use Rattle.word.specs.declared.word.Word.{Word}
use Rattle.word.specs.declared.sign.Sign.TheVariants.{Plus}
use Rattle.word.specs.Field.{field_of}
use Rattle.word.specs.Word.{word_of}
use Rattle.cpu.specs.declared.fault.Fault.{Fault}
use Rattle.cpu.specs.declared.operation.Adjustment.{Adjustment}
use Rattle.cpu.specs.declared.operation.Adjustment.TheVariants.{Increase, Decrease, Enter, EnterNegative}
use Rattle.cpu.specs.declared.operation.Jump.{Jump}
use Rattle.cpu.specs.declared.operation.Jump.TheVariants.{Jmp, Jsj, Jov, Jnov, Jl, Je, Jg, Jge, Jne, Jle}
use Rattle.cpu.specs.declared.operation.Operation.{Operation}
use Rattle.cpu.specs.declared.operation.Operation.TheVariants.{Nothing, Add, Subtract, Multiply, Divide, Halt, ShiftBytes, MoveWords, Load, LoadNegative, Store, StoreJ, StoreZero, JumpBusy, Control, Input, Output, JumpReady, JumpIf, JumpOn, Adjust, Compare}
use Rattle.cpu.specs.declared.register.Register.{Register}
use Rattle.cpu.specs.declared.register.Register.TheVariants.{I1}
use Rattle.cpu.specs.declared.registers.Registers.{Registers}
use Rattle.cpu.specs.Decoding.{code_in, decoded, field_in, number_m}
use Rattle.cpu.specs.Instructions.{Order, adjusting, at, counted, dividing, going, instruction, is_here, jump_if, jump_to, jumping, located, location_of, passes, toggle_off, move_words, moving, program, program_of, storing, taking, testing}
use Rattle.cpu.specs.Laws.{Timed}
use Rattle.cpu.specs.Programs.{Memory, Program, Way, outcome_of, stored}
use Rattle.cpu.specs.Programs.Outcome.{fails, goes, waits}
use Rattle.cpu.specs.Programs.Program.{read, write, save, done}
use Rattle.cpu.specs.Registers.{changed, held, onward, pair_in}
use Rattle.cpu.proofs.Coding.{Fits, fixed, time_fits, time_fixed}

-- whatever a program reads, what comes of it is timed
abbrev Ends : Program → Type 0
Ends (read k f) = (w : Word) → Ends (f w)
Ends (write k w p) = Ends p
Ends (save k f t w) = Timed (goes t w)
Ends (done o) = Timed o

ends_outcome : (p : Program) (m : Memory) → Ends p → Timed (outcome_of p m)
ends_outcome (read k f) m h = ends_outcome (f (m k)) m (h (m k))
ends_outcome (write k w p) m h = ends_outcome p (stored m k w) h
ends_outcome (save k f t w) m h = h
ends_outcome (done o) m h = h

-- programs that go one of two ways, or none
ends_if : (b : Bool) (p q : Program) → Ends p → Ends q → Ends (cond b p q)
ends_if true p q g h = g
ends_if false p q g h = h

ends_located : (w : Word) (f : ℕ → Program) (l : Option ℕ) → ((k : ℕ) → Ends (f k)) → Ends (located w f l)
ends_located w f None h = tt
ends_located w f (Some l) h = h l

ends_at : (w : Word) (f : ℕ → Program) → ((k : ℕ) → Ends (f k)) → Ends (at w f)
ends_at w f h = ends_located w f (location_of w) h

ends_counted : (l : ℕ) (p : Program) → Ends p → Ends (counted l p)
ends_counted l p h = ends_if (ltb l 4000) p _ h tt

ends_taking : (t : ℕ) (w : Result Way Fault) → Fits t → Ends (taking t w)
ends_taking t (Ok w) h = (h.some, h.few)
ends_taking t (Err f) h = tt

ends_moving : (n l k : ℕ) (p : Program) → Ends p → Ends (moving n l k p)
ends_moving zero l k p h = h
ends_moving (suc n) l k p h = ends_counted l _ (λ w. ends_counted k _ (ends_moving n (suc l) (suc k) p h))

-- the programs of the operations, their time fitting
module _ (o : Order) (h : Fits o.time) where
  ends_dividing : (p : Option Pair) → Ends (dividing o p)
  ends_dividing None = (h.some, h.few)
  ends_dividing (Some p) = (h.some, h.few)

  ends_move : (n : ℕ) → Ends (move_words o n)
  ends_move zero = (h.some, h.few)
  ends_move (suc n) =
      let r = o.registers in
      let p = going o (changed r I1 (sum_word (held r I1) (word_of Plus (suc n)))) in
      ends_at o.m _ (λ l. ends_at (held r I1) _ (λ k. ends_moving (suc n) l k p (h.some, h.few)))

  ends_storing : (f : Field) (v : Word) → Ends (storing o f v)
  ends_storing f v = ends_at o.m _ (λ l w. (h.some, h.few))

  ends_jumping : (b : Bool) (r : Registers) → Ends (jumping o b r)
  ends_jumping b r = ends_if b _ _ (ends_taking o.time (jump_to o.m r) h) (h.some, h.few)

  ends_jump_if : (j : Jump) → Ends (jump_if o j)
  ends_jump_if Jmp = ends_jumping true o.registers
  ends_jump_if Jsj = ends_at o.m _ (λ l. (h.some, h.few))
  ends_jump_if Jov = ends_jumping o.registers.overflow (toggle_off o.registers)
  ends_jump_if Jnov = ends_jumping (not o.registers.overflow) (toggle_off o.registers)
  ends_jump_if Jl = ends_jumping (is_lt o.registers.indicator) o.registers
  ends_jump_if Je = ends_jumping (is_eq o.registers.indicator) o.registers
  ends_jump_if Jg = ends_jumping (is_gt o.registers.indicator) o.registers
  ends_jump_if Jge = ends_jumping (is_ge o.registers.indicator) o.registers
  ends_jump_if Jne = ends_jumping (is_ne o.registers.indicator) o.registers
  ends_jump_if Jle = ends_jumping (is_le o.registers.indicator) o.registers

  ends_refusing : (b : Bool) (f : Fault) (w : Way) → Ends (cond b (done (fails f)) (done (goes o.time w)))
  ends_refusing b f w = ends_if b _ _ tt (h.some, h.few)

  ends_filling : (b : Bool) (w : Way) (f : Fault) → Ends (cond b (done (goes o.time w)) (done (fails f)))
  ends_filling b w f = ends_if b _ _ (h.some, h.few) tt

  ends_adjusting : (k : Register) (a : Adjustment) → Ends (adjusting o k a)
  ends_adjusting k Increase = ends_filling _ _ _
  ends_adjusting k Decrease = ends_filling _ _ _
  ends_adjusting k Enter = ends_filling _ _ _
  ends_adjusting k EnterNegative = ends_filling _ _ _

  ends_program : (p : Operation) → IfSome (fixed p) (λ n. o.time ≡ n) → Ends (program o p)
  ends_program Nothing e = (h.some, h.few)
  ends_program (Add f) e = ends_at o.m _ (λ l w. (h.some, h.few))
  ends_program (Subtract f) e = ends_at o.m _ (λ l w. (h.some, h.few))
  ends_program (Multiply f) e = ends_at o.m _ (λ l w. (h.some, h.few))
  ends_program (Divide f) e = ends_at o.m _ (λ l w. ends_dividing (quotient_of (pair_in o.registers) (field_of f w)))
  ends_program Halt e = e
  ends_program (ShiftBytes s) e = ends_refusing _ _ _
  ends_program (MoveWords n) e = ends_move n
  ends_program (Load k f) e = ends_at o.m _ (λ l w. ends_filling _ _ _)
  ends_program (LoadNegative k f) e = ends_at o.m _ (λ l w. ends_filling _ _ _)
  ends_program (Store k f) e = ends_storing f (held o.registers k)
  ends_program (StoreJ f) e = ends_at o.m _ (λ l w. (h.some, h.few))
  ends_program (StoreZero f) e = ends_storing f (word_of Plus 0)
  ends_program (JumpBusy u) e =
      ends_if (is_here o.registers (location_of o.m)) (done (waits o.time u (onward o.registers))) (testing o u true) e e
  ends_program (Control u) e = e
  ends_program (Input u) e = e
  ends_program (Output u) e = e
  ends_program (JumpReady u) e = e
  ends_program (JumpIf j) e = ends_jump_if j
  ends_program (JumpOn k t) e = ends_jumping (passes t (held o.registers k)) o.registers
  ends_program (Adjust k a) e = ends_adjusting k a
  ends_program (Compare k f) e = ends_at o.m _ (λ l w. (h.some, h.few))

ends_word : (r : Registers) (w : Word) (m : Option Word) (p : Option Operation) → decoded (code_in w) (field_in w) ≡ p → Ends (program_of r w m p)
ends_word r w None p e = tt
ends_word r w (Some m) None e = tt
ends_word r w (Some m) (Some p) e =
    let c = code_in w in
    let f = field_in w in
    let fits = time_fits c f (mod_below w.magnitude 64 (omega arith)) (mod_below (w.magnitude / 64) 64 (omega arith)) in
    ends_program (record { registers = r; time = time_of c f; sign = w.sign; m = m }) fits p (time_fixed c f p e)

pub timed_law : (r : Registers) (m : Memory) → Timed (outcome_of (instruction r) m)
unfolding instruction
timed_law r m =
    let p = read r.location (λ w. program_of r w (number_m r w) (decoded (code_in w) (field_in w))) in
    ends_outcome (counted r.location p) m (ends_counted r.location p (λ w. ends_word r w (number_m r w) (decoded (code_in w) (field_in w)) refl))
