-- How what the code answers stands for what is defined.
use Rattle.std.specs.Prelude.{◌≡◌, ℕ, Some, None, Ok, Err, List, Option, Result}
use Rattle.cpu.specs.Executed.{cells}
use Rattle.cpu.specs.Programs.{Memory}
use Rattle.cpu.specs.declared.registers.Registers.{Registers}
use Rattle.rack.specs.Transfers.{Answer}
use Rattle.rack.specs.Units.{Holding, Holdings}
use Rattle.rack.specs.declared.fault.UnitFault.TheVariants.{Absent}
use Rattle.rack.specs.declared.kind.Kind.{Kind}
use Rattle.rack.specs.declared.unit.Unit.{Unit}
use Rattle.word.specs.declared.word.Word.{Word}
use Rattle.flights.specs.Flights.{Core, Drained, Next, delivered, states_in}
use Rattle.flights.specs.Flights.Drained.{clear, broke}
use Rattle.flights.specs.Flights.Next.{nothing, flies}
use Rattle.flights.specs.declared.due.Broken.{Broken}
use Rattle.flights.specs.declared.due.Due.{Due}
use Rattle.flights.specs.declared.fault.Fault.{Fault}
use Rattle.flights.specs.declared.fault.Fault.TheVariants.{Transfer}
use Rattle.flights.specs.declared.fault.Rejected.{Rejected}
use Rattle.flights.specs.declared.flight.Flight.{Flight}
use Rattle.flights.specs.declared.flight.UnitState.{UnitState}
use Rattle.flights.specs.declared.issue.Issue.{Issue}

-- a transfer that is issued of a unit: the unit and the transfer, or why it is rejected
abbrev pub Issues : Unit → Result Flight Fault → Result Issue Fault → Type 0
Issues u (Ok x) (Ok i) = (i.unit ≡ u) × (i.flight ≡ x)
Issues u (Ok x) (Err f) = ⊥
Issues u (Err f) (Ok i) = ⊥
Issues u (Err f) (Err g) = g ≡ f

-- the kind of a unit that is present
abbrev pub Present : ℕ → Unit → Option Holding → Option Kind → Result Kind Rejected → Type 0
Present l u (Some h) (Some k) (Ok x) = x ≡ k
Present l u None k (Ok x) = ⊥
Present l u (Some h) None (Ok x) = ⊥
Present l u (Some h) (Some k) (Err r) = ⊥
Present l u None k (Err r) = r ≡ record { location = l; fault = Absent u }
Present l u (Some h) None (Err r) = r ≡ record { location = l; fault = Absent u }

-- the transfer that goes next
abbrev pub next_of : Option Due → Next
next_of None = nothing
next_of (Some d) = flies d.unit.number d.flight d.time

-- memory after a transfer that was tried
abbrev pub memory_by : Answer → Flight → Memory → Memory
memory_by (Ok e) x m = delivered x e.block m
memory_by (Err f) x m = m

-- the registers, the words of memory, what the units hold, and the units' states
abbrev pub core_in : Registers → List Word → Holdings → List UnitState → Core
core_in r ws h xs = record { registers = r; memory = cells ws; units = h; states = states_in xs }

-- a transfer was carried out, the core before and after it being old and new
abbrev pub CarriedTo : {T : Type 0} → Result Core Fault → Core → Core → Result T Rejected → Type 0
CarriedTo c old new (Ok x) = c ≡ Ok new
CarriedTo c old new (Err r) = (c ≡ Err (Transfer r)) × (new ≡ old)

-- transfers were carried out, the core after them being new
abbrev pub DrainedTo : {T : Type 0} → Drained → Core → Result T Broken → Type 0
DrainedTo d new (Ok x) = d ≡ clear new
DrainedTo d new (Err b) = d ≡ broke new b.due (Transfer b.rejected)
