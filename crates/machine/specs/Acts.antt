-- How what the code answers stands for what is defined.
use Rattle.std.specs.Prelude.{◌≡◌, ℕ, ◌+◌, ◌<◌, Ok, Err, Option, Result, ⊤}
use Rattle.cpu.specs.Programs.{Way}
use Rattle.cpu.specs.Registers.{going_to}
use Rattle.cpu.specs.declared.fault.Fault.{Fault as Rejection}
use Rattle.cpu.specs.declared.registers.Registers.{Registers}
use Rattle.cpu.specs.declared.step.Next.{Next}
use Rattle.cpu.specs.declared.step.Next.TheVariants.{Goes, Tests, Waits, Issues, Halts}
use Rattle.flights.specs.Flights.{Core, Drained, opens, with_state}
use Rattle.flights.specs.Flights.Drained.{clear, broke}
use Rattle.flights.specs.declared.fault.Fault.{Fault}
use Rattle.rack.specs.Units.{Holdings}
use Rattle.rack.specs.declared.request.Request.{Request}
use Rattle.machine.specs.Runs.{Comes}
use Rattle.std.specs.Option.{option_or}
use Rattle.flights.specs.Watch.{meet_mark}
use Rattle.flights.specs.declared.flight.Flight.{Flight}
use Rattle.flights.specs.declared.flight.UnitState.TheVariants.{Busy}
use Rattle.flights.specs.declared.mark.Mark.{Mark}
use Rattle.rack.specs.declared.unit.Unit.{Unit}
use Rattle.machine.specs.Steps.{State, Step, telling, until, worked}
use Rattle.machine.specs.declared.phase.Phase.TheVariants.{Faulted}
use Rattle.machine.specs.declared.turn.Turn.{Turn}

-- a machine as it was left, or stopped at the fault that is answered
abbrev pub ended : {T : Type 0} → Result T Fault → State → State
ended (Ok x) s = s
ended (Err f) s = record s { phase = Faulted f }

-- what a step comes to, by what is answered and what is left
abbrev pub Came : {R T : Type 0} → (R → Holdings) → (R → Request → ℕ) → Step → Result T Fault → State → Type 0
Came holds tells x r s = Comes holds tells x (ended r s)

-- a wait until a time, or until a transfer is rejected on the way
abbrev pub waited_to : State → Core → ℕ → State
waited_to s c t = record s { core = c; counts = until t s.counts }

abbrev pub WaitedTo : {T : Type 0} → Drained → ℕ → State → State → Result T Fault → Type 0
WaitedTo (clear c) t old new (Ok x) = new ≡ waited_to old c t
WaitedTo (clear c) t old new (Err f) = ⊥
WaitedTo (broke c due g) t old new (Ok x) = ⊥
WaitedTo (broke c due g) t old new (Err f) = (new ≡ waited_to old c due) × (f ≡ g)

-- the way on that was found: what J is set to, and the next location
abbrev pub Finds : Registers → Result Way Rejection → Result Turn Rejection → Type 0
Finds r w (Ok n) = w ≡ Ok (record { jump = n.jump; registers = going_to n.location r })
Finds r w (Err f) = w ≡ Err f

-- a transfer that is issued at the clock, a time being told for it
abbrev pub launched : ℕ → ℕ → Unit → Registers → Option Mark → Flight → State → State
launched d t u r a x s =
    record s {
      core = record s.core { registers = r; states = with_state s.core.states u.number (Busy x (s.counts.clock + t + d)) };
      counts = telling d (worked t s.counts);
      mark = option_or a (meet_mark (opens s.core) u.number x x.location);
    }

-- and the rack, which told it, holding what the units held
abbrev pub Launched : {R : Type 0} → (R → Holdings) → (R → Request → ℕ) → ℕ → Unit → Registers → Option Mark → Flight → State → State → Type 0
Launched {R} holds tells t u r a x old new =
    (k : R) × (holds k ≡ old.core.units) × (new ≡ launched (tells k (record { unit = u; transfer = x.transfer })) t u r a x old)

-- the location of an instruction that does not go on is in memory
abbrev pub Here : Next → ℕ → Type 0
Here (Goes j) l = ⊤
Here (Tests u b m) l = l < 4000
Here (Waits u) l = l < 4000
Here (Issues u x m) l = l < 4000
Here Halts l = l < 4000
