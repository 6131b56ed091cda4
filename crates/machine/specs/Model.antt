-- What the machine of the code stands for, and a machine that was just loaded.
use Rattle.std.specs.Prelude.{ℕ, true, false, None}
use Rattle.std.specs.declared.cmp.Ordering.TheVariants.{Equal}
use Rattle.cpu.specs.Executed.{cells}
use Rattle.cpu.specs.Programs.{Memory}
use Rattle.cpu.specs.Registers.{index_of}
use Rattle.cpu.specs.declared.registers.Registers.{Registers}
use Rattle.rack.specs.Units.{Holdings}
use Rattle.word.specs.declared.sign.Sign.TheVariants.{Plus}
use Rattle.word.specs.Word.{word_of}
use Rattle.flights.specs.Flights.{Core, states_in}
use Rattle.machine.specs.Steps.{State}
use Rattle.flights.specs.declared.flight.UnitState.TheVariants.{Idle}
use Rattle.machine.specs.declared.machine.Machine.{Machine}
use Rattle.machine.specs.declared.parts.Parts.{Parts}
use Rattle.machine.specs.declared.phase.Phase.TheVariants.{Running}

abbrev pub core_of : {R : Type 0} → (R → Holdings) → Parts R → Core
core_of holds m =
    record { registers = m.processor.registers; memory = cells m.processor.memory; units = holds m.rack; states = states_in m.flights.states }

-- the machine that the parts of a machine of the code stand for
abbrev pub stands : {R : Type 0} → (R → Holdings) → Parts R → State
stands holds m = record { core = core_of holds m; j = m.j; counts = m.counts; mark = m.mark; phase = m.phase }

-- and the machine of the code
abbrev pub model : {R : Type 0} → (R → Holdings) → Machine R → State
model holds m = stands holds m.parts

-- registers of a machine that was just loaded: +0, the toggle off, the indicator at equal
abbrev pub fresh_registers : ℕ → Registers
fresh_registers start =
    let zero = word_of Plus 0 in
    let none = index_of zero in
    record { a = zero; i1 = none; i2 = none; i3 = none; i4 = none; i5 = none; i6 = none; x = zero; overflow = false; indicator = Equal; location = start }

-- a machine that was just loaded with a memory, a start and units
abbrev pub fresh : Memory → ℕ → Holdings → State
fresh m start h =
    record {
      core = record { registers = fresh_registers start; memory = m; units = h; states = λ u. Idle };
      j = record { location = 0; settled = true };
      counts = record { clock = 0; working_time = 0; waiting = 0; told = 0; granted = 0; working_steps = 0; waiting_steps = 0 };
      mark = None;
      phase = Running;
    }
