-- Instruction words: their parts, and the operation that C and F name.
use Rattle.std.specs.Prelude.{ℕ, ◌/◌, ◌%◌, ◌^◌, ◌≤◌, min, cond, Some, None, Option, ◌==◌, nat_le}
use Rattle.std.proofs.Common.{arith}
use Rattle.arith.specs.declared.shift.Shift.TheVariants.{Sla, Sra, Slax, Srax, Slc, Src}
use Rattle.arith.specs.Sums.{sum_word}
use Rattle.word.specs.declared.field.Field.{Field}
use Rattle.word.specs.declared.word.Word.{Word}
use Rattle.word.specs.Field.{is_field}
use Rattle.word.specs.Word.{word_of}
use Rattle.cpu.specs.declared.operation.Adjustment.TheVariants.{Increase, Decrease, Enter, EnterNegative}
use Rattle.cpu.specs.declared.operation.Jump.TheVariants.{Jmp, Jsj, Jov, Jnov, Jl, Je, Jg, Jge, Jne, Jle}
use Rattle.cpu.specs.declared.operation.Operation.{Operation}
use Rattle.cpu.specs.declared.operation.Operation.TheVariants.{Nothing, Add, Subtract, Multiply, Divide, Halt, ShiftBytes, MoveWords, Load, LoadNegative, Store, StoreJ, StoreZero, JumpBusy, Control, Input, Output, JumpReady, JumpIf, JumpOn, Adjust, Compare}
use Rattle.cpu.specs.declared.operation.Test.TheVariants.{Negative, Zero, Positive, NotNegative, NotZero, NotPositive}
use Rattle.cpu.specs.declared.register.Register.{Register}
use Rattle.cpu.specs.declared.register.Register.TheVariants.{A, I1, I2, I3, I4, I5, I6, X}
use Rattle.cpu.specs.declared.registers.Registers.{Registers}
use Rattle.cpu.specs.Registers.{held}

-- the address of an instruction's word: its sign and bytes 1 and 2
abbrev pub address_in : Word → Word
address_in w = word_of w.sign (w.magnitude / 64 ^ 3)

-- byte 3 is the index, byte 4 F, byte 5 C
abbrev pub index_in : Word → ℕ
index_in w = w.magnitude / 64 ^ 2 % 64

abbrev pub field_in : Word → ℕ
field_in w = w.magnitude / 64 % 64

abbrev pub code_in : Word → ℕ
code_in w = w.magnitude % 64

-- the address plus the index register that the index names; 0 names none, and above 6 there is none
abbrev pub indexed : Registers → Word → ℕ → Option Word
indexed r a i =
    cond (i == 0) (Some a) (
    cond (i == 1) (Some (sum_word a (held r I1))) (
    cond (i == 2) (Some (sum_word a (held r I2))) (
    cond (i == 3) (Some (sum_word a (held r I3))) (
    cond (i == 4) (Some (sum_word a (held r I4))) (
    cond (i == 5) (Some (sum_word a (held r I5))) (
    cond (i == 6) (Some (sum_word a (held r I6))) None))))))

-- M of an instruction
abbrev pub number_m : Registers → Word → Option Word
number_m r w = indexed r (address_in w) (index_in w)

unfoldable pub left_right : (f : ℕ) → min (f / 8) (min (f % 8) 5) ≤ min (f % 8) 5
left_right f = omega arith

unfoldable pub right_five : (f : ℕ) → min (f % 8) 5 ≤ 5
right_five f = omega arith

-- the field of a code that names one
unfoldable pub field_at : ℕ → Field
field_at f = record { left = min (f / 8) (min (f % 8) 5); right = min (f % 8) 5; ordered = left_right f; within = right_five f }

-- the field that F names, if it names one
abbrev pub field_if : ℕ → Option Field
field_if f = cond (is_field f) (Some (field_at f)) None

-- an operation with a field, where F names one
abbrev pub with_field : ℕ → (Field → Operation) → Option Operation
with_field f g = cond (is_field f) (Some (g (field_at f))) None

-- the register of the last three bits of C
abbrev pub register_at : ℕ → Register
register_at n =
    cond (n == 0) A (cond (n == 1) I1 (cond (n == 2) I2 (cond (n == 3) I3 (cond (n == 4) I4 (cond (n == 5) I5 (cond (n == 6) I6 X))))))

-- an F that is listed from 0 on
abbrev pub shift_at : ℕ → Option Operation
shift_at f =
    cond (f == 0) (Some (ShiftBytes Sla)) (
    cond (f == 1) (Some (ShiftBytes Sra)) (
    cond (f == 2) (Some (ShiftBytes Slax)) (
    cond (f == 3) (Some (ShiftBytes Srax)) (
    cond (f == 4) (Some (ShiftBytes Slc)) (
    cond (f == 5) (Some (ShiftBytes Src)) None)))))

abbrev pub jump_at : ℕ → Option Operation
jump_at f =
    cond (f == 0) (Some (JumpIf Jmp)) (
    cond (f == 1) (Some (JumpIf Jsj)) (
    cond (f == 2) (Some (JumpIf Jov)) (
    cond (f == 3) (Some (JumpIf Jnov)) (
    cond (f == 4) (Some (JumpIf Jl)) (
    cond (f == 5) (Some (JumpIf Je)) (
    cond (f == 6) (Some (JumpIf Jg)) (
    cond (f == 7) (Some (JumpIf Jge)) (
    cond (f == 8) (Some (JumpIf Jne)) (
    cond (f == 9) (Some (JumpIf Jle)) None)))))))))

abbrev pub test_at : Register → ℕ → Option Operation
test_at r f =
    cond (f == 0) (Some (JumpOn r Negative)) (
    cond (f == 1) (Some (JumpOn r Zero)) (
    cond (f == 2) (Some (JumpOn r Positive)) (
    cond (f == 3) (Some (JumpOn r NotNegative)) (
    cond (f == 4) (Some (JumpOn r NotZero)) (
    cond (f == 5) (Some (JumpOn r NotPositive)) None)))))

abbrev pub adjustment_at : Register → ℕ → Option Operation
adjustment_at r f =
    cond (f == 0) (Some (Adjust r Increase)) (
    cond (f == 1) (Some (Adjust r Decrease)) (
    cond (f == 2) (Some (Adjust r Enter)) (
    cond (f == 3) (Some (Adjust r EnterNegative)) None)))

-- the operation of C and F, in the order of C; none where C takes no such F
unfoldable pub decoded : ℕ → ℕ → Option Operation
decoded c f =
    cond (c == 0) (Some Nothing) (
    cond (c == 1) (with_field f Add) (
    cond (c == 2) (with_field f Subtract) (
    cond (c == 3) (with_field f Multiply) (
    cond (c == 4) (with_field f Divide) (
    cond (c == 5) (cond (f == 2) (Some Halt) None) (
    cond (c == 6) (shift_at f) (
    cond (c == 7) (Some (MoveWords f)) (
    cond (nat_le c 15) (with_field f (Load (register_at (c % 8)))) (
    cond (nat_le c 23) (with_field f (LoadNegative (register_at (c % 8)))) (
    cond (nat_le c 31) (with_field f (Store (register_at (c % 8)))) (
    cond (c == 32) (with_field f StoreJ) (
    cond (c == 33) (with_field f StoreZero) (
    cond (c == 34) (Some (JumpBusy (record { number = f }))) (
    cond (c == 35) (Some (Control (record { number = f }))) (
    cond (c == 36) (Some (Input (record { number = f }))) (
    cond (c == 37) (Some (Output (record { number = f }))) (
    cond (c == 38) (Some (JumpReady (record { number = f }))) (
    cond (c == 39) (jump_at f) (
    cond (nat_le c 47) (test_at (register_at (c % 8)) f) (
    cond (nat_le c 55) (adjustment_at (register_at (c % 8)) f) (
    cond (nat_le c 63) (with_field f (Compare (register_at (c % 8)))) None)))))))))))))))))))))
