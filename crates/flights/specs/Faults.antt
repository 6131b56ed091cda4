-- The numbers of the faults, and what is told of each.
use Rattle.std.specs.Prelude.{ℕ, List, [], ◌∷◌, ℤ, pos}
use Rattle.cpu.specs.declared.fault.Fault.{Fault as Rejection}
use Rattle.cpu.specs.declared.fault.Fault.TheVariants.{Outside, Unlisted, BeyondIndex, NegativeShift}
use Rattle.rack.specs.Transfers.{fault_number as unit_fault_number}
use Rattle.rack.specs.declared.fault.UnitFault.{UnitFault}
use Rattle.rack.specs.declared.fault.UnitFault.TheVariants.{Absent, NotAllowed, NoBlock, Damaged}
use Rattle.word.specs.Word.{value}
use Rattle.flights.specs.declared.fault.Fault.{Fault}
use Rattle.flights.specs.declared.fault.Fault.TheVariants.{Instruction, Transfer}

-- the numbers of an instruction's rejections
abbrev pub rejection_number : Rejection → ℕ
rejection_number (Outside m) = 10
rejection_number (Unlisted l) = 11
rejection_number (BeyondIndex l) = 12
rejection_number (NegativeShift l) = 13

-- the numbers of a machine's faults
abbrev pub fault_number : Fault → ℕ
fault_number (Instruction f) = rejection_number f
fault_number (Transfer r) = unit_fault_number r.fault

-- what is told of an instruction's rejection: the location that is not in memory, or the instruction's
abbrev pub rejection_told : Rejection → List ℤ
rejection_told (Outside m) = value m ∷ []
rejection_told (Unlisted l) = pos l ∷ []
rejection_told (BeyondIndex l) = pos l ∷ []
rejection_told (NegativeShift l) = pos l ∷ []

-- and of a unit's: the unit, and the block where there is no such block or it is damaged
abbrev pub unit_fault_told : UnitFault → List ℤ
unit_fault_told (Absent u) = pos u.number ∷ []
unit_fault_told (NotAllowed u) = pos u.number ∷ []
unit_fault_told (NoBlock u p) = pos u.number ∷ (pos p ∷ [])
unit_fault_told (Damaged u p) = pos u.number ∷ (pos p ∷ [])

-- and of a machine's fault: of a transfer first the location of the instruction that issued it
abbrev pub told_of : Fault → List ℤ
told_of (Instruction f) = rejection_told f
told_of (Transfer r) = pos r.location ∷ unit_fault_told r.fault

-- a fault in numbers
abbrev pub fault_numbers : Fault → List ℤ
fault_numbers f = pos (fault_number f) ∷ told_of f
