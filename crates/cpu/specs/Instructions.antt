-- What each operation does.
use Rattle.std.specs.Prelude.{ℕ, zero, suc, ◌%◌, ◌^◌, Bool, true, false, cond, not, ◌&&◌, Some, None, Ok, Err, Option, Result, ◌==◌, nat_lt}
use Rattle.std.specs.declared.cmp.Ordering.{Ordering}
use Rattle.std.specs.Ordering.{int_cmp, is_lt, is_eq, is_gt, is_ge, is_ne, is_le}
use Rattle.arith.specs.declared.pair.Pair.{Pair}
use Rattle.arith.specs.declared.shift.Shift.{Shift}
use Rattle.arith.specs.Pairs.{product_of, quotient_of}
use Rattle.arith.specs.Shifts.{shifted_by}
use Rattle.arith.specs.Sums.{sum_word, sum_over, entered}
use Rattle.names.specs.Times.{time_of}
use Rattle.rack.specs.declared.request.Transfer.TheVariants.{Take, Put, Shift as ShiftBy}
use Rattle.rack.specs.declared.unit.Unit.{Unit}
use Rattle.word.specs.declared.field.Field.{Field}
use Rattle.word.specs.declared.sign.Sign.{Sign}
use Rattle.word.specs.declared.sign.Sign.TheVariants.{Plus, Minus}
use Rattle.word.specs.declared.word.Word.{Word}
use Rattle.word.specs.Field.{field_of, stored_in}
use Rattle.word.specs.Sign.{opposite}
use Rattle.word.specs.Word.{word_of, value, negative}
use Rattle.cpu.specs.declared.fault.Fault.{Fault}
use Rattle.cpu.specs.declared.fault.Fault.TheVariants.{Outside, Unlisted, BeyondIndex, NegativeShift}
use Rattle.cpu.specs.declared.operation.Adjustment.{Adjustment}
use Rattle.cpu.specs.declared.operation.Adjustment.TheVariants.{Increase, Decrease, Enter, EnterNegative}
use Rattle.cpu.specs.declared.operation.Jump.{Jump}
use Rattle.cpu.specs.declared.operation.Jump.TheVariants.{Jmp, Jsj, Jov, Jnov, Jl, Je, Jg, Jge, Jne, Jle}
use Rattle.cpu.specs.declared.operation.Operation.{Operation}
use Rattle.cpu.specs.declared.operation.Operation.TheVariants.{Nothing, Add, Subtract, Multiply, Divide, Halt, ShiftBytes, MoveWords, Load, LoadNegative, Store, StoreJ, StoreZero, JumpBusy, Control, Input, Output, JumpReady, JumpIf, JumpOn, Adjust, Compare}
use Rattle.cpu.specs.declared.operation.Test.{Test}
use Rattle.cpu.specs.declared.operation.Test.TheVariants.{Negative, Zero, Positive, NotNegative, NotZero, NotPositive}
use Rattle.cpu.specs.declared.register.Register.{Register}
use Rattle.cpu.specs.declared.register.Register.TheVariants.{I1}
use Rattle.cpu.specs.declared.registers.Registers.{Registers}
use Rattle.cpu.specs.Decoding.{code_in, field_in, number_m, decoded}
use Rattle.cpu.specs.Programs.{Way, Program}
use Rattle.cpu.specs.Programs.Outcome.{goes, tests, waits, issues, halts, fails}
use Rattle.cpu.specs.Programs.Program.{read, write, save, done}
use Rattle.cpu.specs.Registers.{held, fits, changed, pair_in, with_pair, toggled, onward, going_to}

-- an instruction at work: the registers before it, its time, its sign and its M
pub record Order : Type 0 where
  pub registers : Registers
  pub time : ℕ
  pub sign : Sign
  pub m : Word

-- whether a number is below 0, and whether it is above; -0 is neither
abbrev pub negative_if : Sign → ℕ → Bool
negative_if Plus m = false
negative_if Minus m = not (m == 0)

abbrev pub is_negative : Word → Bool
is_negative w = negative_if w.sign w.magnitude

abbrev pub is_positive : Word → Bool
is_positive w = negative_if (opposite w.sign) w.magnitude

-- the location that a number is, from 0 to 3999
abbrev pub location_of : Word → Option ℕ
location_of w = cond (nat_lt w.magnitude 4000 && not (is_negative w)) (Some w.magnitude) None

-- a program that goes on at a location
abbrev pub located : Word → (ℕ → Program) → Option ℕ → Program
located w f None = done (fails (Outside w))
located w f (Some l) = f l

abbrev pub at : Word → (ℕ → Program) → Program
at w f = located w f (location_of w)

-- the next instruction is the one after this, with the registers given
abbrev pub along : Registers → Way
along r = record { jump = None; registers = onward r }

abbrev pub going : Order → Registers → Program
going o r = done (goes o.time (along r))

-- the word at M is read by a field
abbrev pub operand : Order → Field → (Word → Program) → Program
operand o f g = at o.m (λ l. read l (λ w. g (field_of f w)))

-- a sum in A
abbrev pub adding : Order → Word → Program
adding o v =
    let r = o.registers in
    going o (toggled (sum_over r.a v) (record r { a = sum_word r.a v }))

-- A and X after DIV; where there is no quotient the toggle goes on
abbrev pub dividing : Order → Option Pair → Program
dividing o None = going o (toggled true o.registers)
dividing o (Some p) = going o (with_pair o.registers p)

abbrev pub shifting : Order → Shift → Program
shifting o s =
    let r = o.registers in
    cond (is_negative o.m) (done (fails (NegativeShift r.location))) (going o (with_pair r (shifted_by s o.m.magnitude (pair_in r))))

-- a register gets a word, if there is room for it
abbrev pub loading : Order → Register → Word → Registers → Program
loading o k w r = cond (fits k w) (going o (changed r k w)) (done (fails (BeyondIndex r.location)))

-- a location that is counted up to
abbrev pub counted : ℕ → Program → Program
counted l p = cond (nat_lt l 4000) p (done (fails (Outside (word_of Plus l))))

-- n words from l on are moved to k on, one by one
abbrev pub moving : ℕ → ℕ → ℕ → Program → Program
moving zero l k p = p
moving (suc n) l k p = counted l (read l (λ w. counted k (write k w (moving n (suc l) (suc k) p))))

-- MOVE of n words; of none M and I1 are not looked at
abbrev pub move_words : Order → ℕ → Program
move_words o zero = going o o.registers
move_words o (suc n) =
    let r = o.registers in
    at o.m (λ l. at (held r I1) (λ k. moving (suc n) l k (going o (changed r I1 (sum_word (held r I1) (word_of Plus (suc n)))))))

-- a field of the word at M gets a word
abbrev pub storing : Order → Field → Word → Program
storing o f v = at o.m (λ l. read l (λ w. write l (stored_in f v w) (going o o.registers)))

-- and J's
abbrev pub storing_j : Order → Field → Program
storing_j o f = at o.m (λ l. read l (λ w. save l (λ j. stored_in f j w) o.time (along o.registers)))

-- a jump to M: J is set to the location after this instruction
abbrev pub jump_way : Registers → Option ℕ → Word → Result Way Fault
jump_way r None m = Err (Outside m)
jump_way r (Some l) m = Ok (record { jump = Some (suc r.location); registers = going_to l r })

abbrev pub jump_to : Word → Registers → Result Way Fault
jump_to m r = jump_way r (location_of m) m

-- a way as a program
abbrev pub taking : ℕ → Result Way Fault → Program
taking t (Ok w) = done (goes t w)
taking t (Err f) = done (fails f)

-- a jump that is taken or not
abbrev pub jumping : Order → Bool → Registers → Program
jumping o b r = cond b (taking o.time (jump_to o.m r)) (done (goes o.time (along r)))

-- JSJ leaves J
abbrev pub jumping_past_j : Order → Program
jumping_past_j o = at o.m (λ l. done (goes o.time (record { jump = None; registers = going_to l o.registers })))

-- the toggle off
abbrev pub toggle_off : Registers → Registers
toggle_off r = record r { overflow = false }

abbrev pub jump_if : Order → Jump → Program
jump_if o Jmp = jumping o true o.registers
jump_if o Jsj = jumping_past_j o
jump_if o Jov = jumping o o.registers.overflow (toggle_off o.registers)
jump_if o Jnov = jumping o (not o.registers.overflow) (toggle_off o.registers)
jump_if o Jl = jumping o (is_lt o.registers.indicator) o.registers
jump_if o Je = jumping o (is_eq o.registers.indicator) o.registers
jump_if o Jg = jumping o (is_gt o.registers.indicator) o.registers
jump_if o Jge = jumping o (is_ge o.registers.indicator) o.registers
jump_if o Jne = jumping o (is_ne o.registers.indicator) o.registers
jump_if o Jle = jumping o (is_le o.registers.indicator) o.registers

-- what a test says of a word; -0 is zero
abbrev pub passes : Test → Word → Bool
passes Negative w = is_negative w
passes Zero w = w.magnitude == 0
passes Positive w = is_positive w
passes NotNegative w = not (is_negative w)
passes NotZero w = not (w.magnitude == 0)
passes NotPositive w = not (is_positive w)

-- a register that is increased by a number, with the toggle where the sum is too large
abbrev pub increasing : Order → Register → Word → Program
increasing o k v =
    let r = o.registers in
    loading o k (sum_word (held r k) v) (toggled (sum_over (held r k) v) r)

abbrev pub adjusting : Order → Register → Adjustment → Program
adjusting o k Increase = increasing o k o.m
adjusting o k Decrease = increasing o k (negative o.m)
adjusting o k Enter = loading o k (entered o.sign o.m) o.registers
adjusting o k EnterNegative = loading o k (negative (entered o.sign o.m)) o.registers

-- the order of two words as numbers
abbrev pub compared : Word → Word → Ordering
compared v w = int_cmp (value v) (value w)

abbrev pub comparing : Order → Register → Field → Program
comparing o k f =
    let r = o.registers in
    operand o f (λ v. going o (record r { indicator = compared (field_of f (held r k)) v }))

-- JBUS jumps if the unit is busy, JRED if it is not
abbrev pub testing : Order → Unit → Bool → Program
testing o u true = done (tests o.time u (jump_to o.m o.registers) (Ok (along o.registers)))
testing o u false = done (tests o.time u (Ok (along o.registers)) (jump_to o.m o.registers))

-- JBUS to itself waits
abbrev pub is_here : Registers → Option ℕ → Bool
is_here r None = false
is_here r (Some l) = l == r.location

abbrev pub jump_busy : Order → Unit → Program
jump_busy o u =
    cond (is_here o.registers (location_of o.m)) (done (waits o.time u (onward o.registers))) (testing o u true)

-- the number of a disk's block, bytes 4 and 5 of X
abbrev pub block_number : Registers → ℕ
block_number r = r.x.magnitude % 64 ^ 2

-- the program of an operation
abbrev pub program : Order → Operation → Program
program o Nothing = going o o.registers
program o (Add f) = operand o f (adding o)
program o (Subtract f) = operand o f (λ v. adding o (negative v))
program o (Multiply f) = operand o f (λ v. going o (with_pair o.registers (product_of o.registers.a v)))
program o (Divide f) = operand o f (λ v. dividing o (quotient_of (pair_in o.registers) v))
program o Halt = done (halts o.time (onward o.registers))
program o (ShiftBytes s) = shifting o s
program o (MoveWords n) = move_words o n
program o (Load k f) = operand o f (λ v. loading o k v o.registers)
program o (LoadNegative k f) = operand o f (λ v. loading o k (negative v) o.registers)
program o (Store k f) = storing o f (held o.registers k)
program o (StoreJ f) = storing_j o f
program o (StoreZero f) = storing o f (word_of Plus 0)
program o (JumpBusy u) = jump_busy o u
program o (Control u) = done (issues o.time u (ShiftBy o.m) o.m (onward o.registers))
program o (Input u) = done (issues o.time u (Take (block_number o.registers)) o.m (onward o.registers))
program o (Output u) = done (issues o.time u (Put (block_number o.registers)) o.m (onward o.registers))
program o (JumpReady u) = testing o u false
program o (JumpIf j) = jump_if o j
program o (JumpOn k t) = jumping o (passes t (held o.registers k)) o.registers
program o (Adjust k a) = adjusting o k a
program o (Compare k f) = comparing o k f

-- the program of an instruction's word: rejected where the index is above 6, or C takes no such F
abbrev pub program_of : Registers → Word → Option Word → Option Operation → Program
program_of r w None p = done (fails (Unlisted r.location))
program_of r w (Some m) None = done (fails (Unlisted r.location))
program_of r w (Some m) (Some p) =
    program (record { registers = r; time = time_of (code_in w) (field_in w); sign = w.sign; m = m }) p

-- the program of the instruction at the location
unfoldable pub instruction : Registers → Program
instruction r = counted r.location (read r.location (λ w. program_of r w (number_m r w) (decoded (code_in w) (field_in w))))
