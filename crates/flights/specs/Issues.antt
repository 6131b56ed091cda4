-- Transfers that are issued: the area of each, and why it is rejected.
use Rattle.std.specs.Prelude.{ℕ, ◌+◌, cond, Some, None, Ok, Err, Option, Result, nat_le}
use Rattle.cpu.specs.Instructions.{location_of}
use Rattle.cpu.specs.declared.fault.Fault.{Fault as Rejection}
use Rattle.cpu.specs.declared.fault.Fault.TheVariants.{Outside}
use Rattle.cpu.specs.declared.step.Span.{Span}
use Rattle.rack.specs.Units.{Holding, block_size}
use Rattle.rack.specs.declared.fault.UnitFault.TheVariants.{Absent}
use Rattle.rack.specs.declared.kind.Kind.{Kind}
use Rattle.rack.specs.declared.request.Transfer.{Transfer}
use Rattle.rack.specs.declared.request.Transfer.TheVariants.{Take, Put, Shift}
use Rattle.rack.specs.declared.unit.Unit.{Unit}
use Rattle.word.specs.declared.sign.Sign.TheVariants.{Plus}
use Rattle.word.specs.declared.word.Word.{Word}
use Rattle.word.specs.Word.{word_of}
use Rattle.flights.specs.declared.fault.Fault.{Fault}
use Rattle.flights.specs.declared.fault.Fault.TheVariants.{Instruction as of_instruction, Transfer as of_transfer}
use Rattle.flights.specs.declared.flight.Flight.{Flight}

-- an area of n words from a number on: it must lie in memory; told is the first location that does not
abbrev pub area_at : ℕ → Word → Option ℕ → Result Span Rejection
area_at n m None = Err (Outside m)
area_at n m (Some l) = cond (nat_le (l + n) 4000) (Ok (record { start = l; count = n })) (Err (Outside (word_of Plus 4000)))

-- a transfer has an area of a block's words, a shift none
abbrev pub area_of : Kind → Transfer → Word → Result Span Rejection
area_of k (Take a) m = area_at (block_size k) m (location_of m)
area_of k (Put a) m = area_at (block_size k) m (location_of m)
area_of k (Shift v) m = Ok (record { start = 0; count = 0 })

abbrev pub flight_in : Transfer → ℕ → Result Span Rejection → Result Flight Fault
flight_in x l (Ok s) = Ok (record { transfer = x; area = s; location = l })
flight_in x l (Err f) = Err (of_instruction f)

-- a transfer that an instruction at l issues: its unit must be present, and its area in memory
abbrev pub flight_if : Unit → Transfer → Word → ℕ → Option Holding → Option Kind → Result Flight Fault
flight_if u x m l None k = Err (of_transfer (record { location = l; fault = Absent u }))
flight_if u x m l (Some h) None = Err (of_transfer (record { location = l; fault = Absent u }))
flight_if u x m l (Some h) (Some k) = flight_in x l (area_of k x m)
