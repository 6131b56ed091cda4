-- The untimed machine that both rooms follow. A transfer is carried out as it is issued, and one that is rejected
-- leaves its unit dead. Where a room sets a mark or stops at a fault, this machine is lost.
use Rattle.std.proofs.Common.{ℕ, suc, ◌+◌, Bool, true, false, not, ◌&&◌, Option, Some, None, Ok, Err, Result}
use Rattle.cpu.specs.Instructions.{instruction}
use Rattle.cpu.specs.Programs.{Memory, Outcome, Program, Way, outcome_of, memory_after, reads_of, writes_of, takes_j}
use Rattle.cpu.specs.Programs.Outcome.{goes, tests, waits, issues, halts, fails}
use Rattle.cpu.specs.declared.fault.Fault.{Fault as Rejection}
use Rattle.cpu.specs.declared.registers.Registers.{Registers}
use Rattle.flights.specs.Flights.{units, unit_at, given, delivered}
use Rattle.machine.specs.Steps.{j_after, unsettled, j_word}
use Rattle.flights.specs.Issues.{flight_if}
use Rattle.flights.specs.Watch.{Open, first_unit, touch_mark, meet_mark}
use Rattle.flights.specs.declared.fault.Fault.{Fault}
use Rattle.flights.specs.declared.flight.Flight.{Flight}
use Rattle.machine.specs.declared.j.J.{J}
use Rattle.flights.specs.declared.mark.Mark.{Mark}
use Rattle.rack.specs.Transfers.{Answer, perform}
use Rattle.rack.specs.Units.{Holding, kind_of}
use Rattle.rack.specs.declared.request.Transfer.{Transfer}
use Rattle.rack.specs.declared.unit.Unit.{Unit as Device}
use Rattle.word.specs.declared.word.Word.{Word}
use Rattle.flights.proofs.Stores.{with_at}

-- how the machine stands
pub data Course : Type 0 where
  running : Course
  halted : Course
  lost : Course

-- a unit: what it holds, or dead
pub data Life : Type 0 where
  holding : Option Holding → Life
  dead : Life

pub record Eager : Type 0 where
  pub registers : Registers
  pub j : J
  pub memory : Memory
  pub units : ℕ → Life
  pub opens : Open
  pub course : Course
  pub time : ℕ
  pub steps : ℕ

abbrev pub is_dead : Life → Bool
is_dead (holding h) = false
is_dead dead = true

-- a unit and the memory after a transfer
abbrev pub life_after : Answer → Life
life_after (Ok e) = holding (Some e.holding)
life_after (Err f) = dead

abbrev pub filled_by : Flight → Answer → Memory → Memory
filled_by x (Ok e) m = delivered x e.block m
filled_by x (Err f) m = m

abbrev pub gone : Eager → Eager
gone e = record e { course = lost }

-- a step of a time is made
abbrev pub counted : ℕ → Eager → Eager
counted t e = record e { course = running; time = e.time + t; steps = suc e.steps }

abbrev pub eager_went : Eager → Memory → ℕ → Way → Eager
eager_went e m t w = counted t (record e { registers = w.registers; j = j_after e.j w.jump; memory = m })

abbrev pub eager_went_if : Eager → Memory → ℕ → Result Way Rejection → Eager
eager_went_if e m t (Ok w) = eager_went e m t w
eager_went_if e m t (Err f) = gone e

-- JRED, and JBUS elsewhere
abbrev pub eager_tested : Eager → Memory → ℕ → Result Way Rejection → Option Flight → Eager
eager_tested e m t free None = eager_went_if e m t free
eager_tested e m t free (Some x) = gone e

-- JBUS to itself
abbrev pub eager_paused : Eager → ℕ → ℕ → Registers → Option Flight → Life → Eager
eager_paused e t u r None l = counted t (record e { registers = r })
eager_paused e t u r (Some x) dead = gone e
eager_paused e t u r (Some x) (holding h) =
    counted t (record e { registers = r; j = unsettled e.j.location; opens = with_at e.opens u None })

-- IN, OUT and IOC
abbrev pub eager_landed : Eager → ℕ → ℕ → Registers → Flight → Answer → Eager
eager_landed e t u r x a =
    counted t (record e { registers = r; memory = filled_by x a e.memory; units = with_at e.units u (life_after a); opens = with_at e.opens u (Some x) })

abbrev pub eager_issued : Eager → ℕ → ℕ → Registers → Option Holding → Flight → Option Mark → Eager
eager_issued e t u r h x None = eager_landed e t u r x (perform (unit_at u) x.transfer (given x e.memory) h)
eager_issued e t u r h x (Some k) = gone e

abbrev pub eager_issued_if : Eager → ℕ → ℕ → Registers → Option Holding → Result Flight Fault → Eager
eager_issued_if e t u r h (Ok x) = eager_issued e t u r h x (meet_mark e.opens u x x.location)
eager_issued_if e t u r h (Err f) = gone e

abbrev pub eager_asked : Eager → ℕ → Device → Transfer → Word → Registers → Life → Eager
eager_asked e t u x v r (holding h) =
    eager_issued_if e t u.number r h (flight_if u x v e.registers.location h (kind_of u.number))
eager_asked e t u x v r dead = gone e

-- HLT; a unit may be found dead
abbrev pub eager_halted : Eager → ℕ → Registers → Option ℕ → Eager
eager_halted e t r None = record (counted t e) { registers = r; opens = λ u. None; course = halted }
eager_halted e t r (Some u) = gone e

abbrev pub eager_act : Eager → Memory → Outcome → Eager
eager_act e m (goes t w) = eager_went e m t w
eager_act e m (tests t u busy free) = eager_tested e m t free (e.opens u.number)
eager_act e m (waits t u r) = eager_paused e t u.number r (e.opens u.number) (e.units u.number)
eager_act e m (issues t u x v r) = eager_asked e t u x v r (e.units u.number)
eager_act e m (halts t r) = eager_halted e t r (first_unit units (λ u. is_dead (e.units u)))
eager_act e m (fails f) = gone e

-- a program is obeyed, unless it is marked
abbrev pub eager_obeys : Eager → Program → Option Mark → Bool → Eager
eager_obeys e p None false = eager_act e (memory_after p (j_word e.j) e.memory) (outcome_of p e.memory)
eager_obeys e p None true = gone e
eager_obeys e p (Some k) b = gone e

abbrev pub eager_begun : Eager → Program → Eager
eager_begun e p =
    eager_obeys e p (touch_mark e.opens (reads_of p e.memory) (writes_of p e.memory) e.registers.location) (not e.j.settled && takes_j p e.memory)

abbrev pub eager_step_in : Course → Eager → Eager
eager_step_in running e = eager_begun e (instruction e.registers)
eager_step_in halted e = e
eager_step_in lost e = e

unfoldable pub eager_step : Eager → Eager
eager_step e = eager_step_in e.course e
