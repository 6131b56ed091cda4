-- The machine, and one step of it.
use Rattle.std.specs.Prelude.{ℕ, suc, ◌+◌, ◌-◌, true, false, cond, not, ◌&&◌, Some, None, Ok, Err, Option, Result}
use Rattle.cpu.specs.Instructions.{instruction}
use Rattle.cpu.specs.Programs.{Memory, Outcome, Program, Way, outcome_of, memory_after, reads_of, writes_of, takes_j}
use Rattle.cpu.specs.Programs.Outcome.{goes, tests, waits, issues, halts, fails}
use Rattle.cpu.specs.declared.fault.Fault.{Fault as Rejection}
use Rattle.cpu.specs.declared.registers.Registers.{Registers}
use Rattle.rack.specs.Units.{Holdings, kind_of}
use Rattle.rack.specs.declared.request.Request.{Request}
use Rattle.rack.specs.declared.unit.Unit.{Unit}
use Rattle.word.specs.declared.sign.Sign.TheVariants.{Plus}
use Rattle.word.specs.declared.word.Word.{Word}
use Rattle.word.specs.Word.{word_of}
use Rattle.flights.specs.Flights.{Core, Drained, units, opens, with_state, drain, later, last_due}
use Rattle.flights.specs.Flights.Drained.{clear, broke}
use Rattle.flights.specs.Issues.{flight_if}
use Rattle.std.specs.Option.{option_or}
use Rattle.flights.specs.Watch.{touch_mark, meet_mark, poll_mark, j_mark}
use Rattle.machine.specs.declared.counts.Counts.{Counts}
use Rattle.flights.specs.declared.fault.Fault.{Fault}
use Rattle.flights.specs.declared.fault.Fault.TheVariants.{Instruction as of_instruction}
use Rattle.flights.specs.declared.flight.Flight.{Flight}
use Rattle.flights.specs.declared.flight.UnitState.{UnitState}
use Rattle.flights.specs.declared.flight.UnitState.TheVariants.{Idle, Busy, Done}
use Rattle.machine.specs.declared.j.J.{J}
use Rattle.flights.specs.declared.mark.Mark.{Mark}
use Rattle.machine.specs.declared.phase.Phase.{Phase}
use Rattle.machine.specs.declared.phase.Phase.TheVariants.{Running, Halted, Faulted}

-- a machine
pub record State : Type 0 where
  pub core : Core
  pub j : J
  pub counts : Counts
  pub mark : Option Mark
  pub phase : Phase

-- the counts after a working step of a time, after a waiting step, after a wait until a time, and after a time was told
abbrev pub worked : ℕ → Counts → Counts
worked t n = record n { clock = n.clock + t; working_time = n.working_time + t; working_steps = suc n.working_steps }

abbrev pub waited : ℕ → Counts → Counts
waited t n = record n { clock = n.clock + t; waiting = suc n.waiting; waiting_steps = suc n.waiting_steps }

abbrev pub until : ℕ → Counts → Counts
until t n = record n { clock = t; waiting = n.waiting + (t - n.clock) }

abbrev pub telling : ℕ → Counts → Counts
telling d n = record n { told = n.told + d }

-- what comes of a step: a machine; or the rack is first asked for the time of a transfer, its units holding
-- what they then hold, and the machine is by the time that it tells
pub data Step : Type 0 where
  ready : State → Step
  asks : Request → Holdings → (ℕ → State) → Step

-- the machine stops at a fault; a step that faults counts nothing, and sets no mark
abbrev pub failed : State → Core → Counts → Fault → State
failed s c n f = record s { core = c; counts = n; phase = Faulted f }

-- J after a step that goes on; J unsettled
abbrev pub j_after : J → Option ℕ → J
j_after j None = j
j_after j (Some l) = record { location = l; settled = true }

abbrev pub unsettled : ℕ → J
unsettled l = record { location = l; settled = false }

-- the core with other registers and another memory
abbrev pub moved : Core → Registers → Memory → Core
moved c r m = record c { registers = r; memory = m }

-- the program acknowledges a unit
abbrev pub acknowledged : ℕ → Core → Core
acknowledged u c = record c { states = with_state c.states u Idle }

-- a working step that goes on, a being the mark after it
abbrev pub went : State → Core → Memory → ℕ → Way → Option Mark → State
went s c m t w a =
    record s { core = moved c w.registers m; j = j_after s.j w.jump; counts = worked t s.counts; mark = a }

-- the same, or a rejection; c is the core where it goes on, and old what it was
abbrev pub went_if : State → Core → Core → Memory → ℕ → Option Mark → Result Way Rejection → State
went_if s old c m t a (Err f) = failed s old s.counts (of_instruction f)
went_if s old c m t a (Ok w) = went s c m t w a

-- JRED, and JBUS elsewhere: an open unit is marked, and a unit that is not busy is acknowledged
abbrev pub tested : State → Core → Memory → ℕ → ℕ → Result Way Rejection → Result Way Rejection → Option Mark → UnitState → State
tested s c m t u busy free a Idle = went_if s c c m t a free
tested s c m t u busy free a (Busy x due) = went_if s c c m t (option_or a (Some (poll_mark u c.registers.location))) busy
tested s c m t u busy free a (Done x) =
    went_if s c (acknowledged u c) m t (option_or a (Some (poll_mark u c.registers.location))) free

-- JBUS to itself: a waiting step while the unit is busy, which sets J and unsettles it; else the unit is
-- acknowledged, and if it was open J is unsettled
abbrev pub paused : State → Core → ℕ → ℕ → Registers → Option Mark → UnitState → State
paused s c t u r a Idle = record s { core = moved c r c.memory; counts = worked t s.counts; mark = a }
paused s c t u r a (Busy x due) =
    record s { core = c; j = unsettled r.location; counts = waited t s.counts; mark = a }
paused s c t u r a (Done x) =
    record s { core = acknowledged u (moved c r c.memory); j = unsettled s.j.location; counts = worked t s.counts; mark = a }

-- IN, OUT and IOC, after the wait until a time for the transfer under way: the rack is asked for the time of
-- the new one, which is due that much after the instruction
abbrev pub issued : State → ℕ → ℕ → Unit → Registers → Option Mark → Flight → Drained → Step
issued s now t u r a x (broke c due f) = ready (failed s c (until due s.counts) f)
issued s now t u r a x (clear c) =
    asks (record { unit = u; transfer = x.transfer }) c.units (λ d.
    record s {
      core = record c { registers = r; states = with_state c.states u.number (Busy x (now + t + d)) };
      counts = telling d (worked t (until now s.counts));
      mark = option_or a (meet_mark (opens c) u.number x x.location);
    })

abbrev pub issued_if : State → Core → ℕ → Unit → Registers → Option Mark → Result Flight Fault → Step
issued_if s c t u r a (Err f) = ready (failed s c s.counts f)
issued_if s c t u r a (Ok x) =
    let now = later s.counts.clock (c.states u.number) in
    issued s now t u r a x (drain units now c)

-- HLT, after the wait until a time for the last transfer under way
abbrev pub halted : State → ℕ → ℕ → Registers → Option Mark → Drained → State
halted s now t r a (broke c due f) = failed s c (until due s.counts) f
halted s now t r a (clear c) =
    record s { core = record c { registers = r; states = λ u. Idle }; counts = worked t (until now s.counts); mark = a; phase = Halted }

-- the unit's state, by its number; what is no unit is idle
abbrev pub act : State → Core → Memory → Option Mark → Outcome → Step
act s c m a (goes t w) = ready (went s c m t w a)
act s c m a (tests t u busy free) = ready (tested s c m t u.number busy free a (c.states u.number))
act s c m a (waits t u r) = ready (paused s c t u.number r a (c.states u.number))
act s c m a (issues t u x v r) =
    issued_if s c t u r a (flight_if u x v c.registers.location (c.units u.number) (kind_of u.number))
act s c m a (halts t r) =
    let now = last_due units s.counts.clock c.states in
    ready (halted s now t r a (drain units now c))
act s c m a (fails f) = ready (failed s c s.counts (of_instruction f))

-- the mark after what a program touches: the kinds 1 and 2, and 5
abbrev pub touched : State → Core → Program → Option Mark
touched s c p =
    let l = c.registers.location in
    option_or s.mark (
    option_or (touch_mark (opens c) (reads_of p c.memory) (writes_of p c.memory) l)
    (cond (not s.j.settled && takes_j p c.memory) (Some (j_mark l)) None))

-- the word of J
abbrev pub j_word : J → Word
j_word j = word_of Plus j.location

-- a program is obeyed
abbrev pub obeys : State → Core → Program → Step
obeys s c p = act s c (memory_after p (j_word s.j) c.memory) (touched s c p) (outcome_of p c.memory)

abbrev pub begun : State → Drained → Step
begun s (broke c due f) = ready (failed s c s.counts f)
begun s (clear c) = obeys s c (instruction c.registers)

abbrev pub step_in : Phase → State → Step
step_in Running s = begun s (drain units s.counts.clock s.core)
step_in Halted s = ready s
step_in (Faulted f) s = ready s

-- one step: what is due is carried out, and then the next instruction; a machine that has stopped stays as it is
unfoldable pub step : State → Step
step s = step_in s.phase s
