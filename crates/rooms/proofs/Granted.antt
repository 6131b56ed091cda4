-- The steps that are made: a step that leaves the machine running is one of those granted.
use Rattle.std.proofs.Common.{◌≡◌, ℕ, suc, ◌+◌, Option, Ok, Err, Result, refl, sym, subst, arith}
use Rattle.cpu.specs.Instructions.{instruction}
use Rattle.cpu.specs.Programs.{Memory, Outcome, Way, outcome_of, memory_after}
use Rattle.cpu.specs.Programs.Outcome.{goes, tests, waits, issues, halts, fails}
use Rattle.cpu.specs.declared.fault.Fault.{Fault as Rejection}
use Rattle.flights.specs.Flights.{Core, Drained, units, drain, later, last_due}
use Rattle.flights.specs.Flights.Drained.{clear, broke}
use Rattle.machine.specs.Steps.{State, acknowledged, went_if, tested, paused, issued, issued_if, halted as has_halted, act, touched, j_word, begun, step_in, step}
use Rattle.flights.specs.Issues.{flight_if}
use Rattle.machine.specs.declared.counts.Counts.{Counts}
use Rattle.flights.specs.declared.fault.Fault.{Fault}
use Rattle.flights.specs.declared.flight.Flight.{Flight}
use Rattle.flights.specs.declared.flight.UnitState.{UnitState}
use Rattle.flights.specs.declared.flight.UnitState.TheVariants.{Idle, Busy, Done}
use Rattle.flights.specs.declared.mark.Mark.{Mark}
use Rattle.machine.specs.declared.phase.Phase.TheVariants.{Running}
use Rattle.rack.specs.Units.{kind_of}
use Rattle.rooms.proofs.Each.{Each}

-- one more working or waiting step
pub record OneMore (n m : Counts) : Type 0 where
  pub steps : m.working_steps + m.waiting_steps ≡ suc (n.working_steps + n.waiting_steps)
  pub granted : m.granted ≡ n.granted

-- a step that leaves the machine running is one more
abbrev pub OneMoreIf : Counts → State → Type 0
OneMoreIf n t = t.phase ≡ Running → OneMore n t.counts

made_act : (s : State) (c : Core) (n : Memory) (a : Option Mark) (o : Outcome) → Each (OneMoreIf s.counts) (act s c n a o)
made_act s c n a (goes t w) = λ h. record { steps = omega arith; granted = refl }
made_act s c n a (tests t u busy free) = go (c.states u.number)
  where
    at : (d : Core) (a : Option Mark) (w : Result Way Rejection) → OneMoreIf s.counts (went_if s c d n t a w)
    at d a (Ok w) = λ h. record { steps = omega arith; granted = refl }
    at d a (Err f) = λ h. absurd (cc h)

    go : (z : UnitState) → OneMoreIf s.counts (tested s c n t u.number busy free a z)
    go Idle = at c a free
    go (Busy x due) = at c _ busy
    go (Done x) = at (acknowledged u.number c) _ free
made_act s c n a (waits t u r) = go (c.states u.number)
  where
    go : (z : UnitState) → OneMoreIf s.counts (paused s c t u.number r a z)
    go Idle = λ h. record { steps = omega arith; granted = refl }
    go (Busy x due) = λ h. record { steps = omega arith; granted = refl }
    go (Done x) = λ h. record { steps = omega arith; granted = refl }
made_act s c n a (issues t u x v r) = go (flight_if u x v c.registers.location (c.units u.number) (kind_of u.number))
  where
    at : (now : ℕ) (y : Flight) (z : Drained) → Each (OneMoreIf s.counts) (issued s now t u r a y z)
    at now y (clear d) = λ told h. record { steps = omega arith; granted = refl }
    at now y (broke d due f) = λ h. absurd (cc h)

    go : (y : Result Flight Fault) → Each (OneMoreIf s.counts) (issued_if s c t u r a y)
    go (Ok y) = at (later s.counts.clock (c.states u.number)) y (drain units (later s.counts.clock (c.states u.number)) c)
    go (Err f) = λ h. absurd (cc h)
made_act s c n a (halts t r) = go (last_due units s.counts.clock c.states) (drain units (last_due units s.counts.clock c.states) c)
  where
    go : (now : ℕ) (z : Drained) → OneMoreIf s.counts (has_halted s now t r a z)
    go now (clear d) = λ h. absurd (cc h)
    go now (broke d due f) = λ h. absurd (cc h)
made_act s c n a (fails f) = λ h. absurd (cc h)

pub made_step : (s : State) → s.phase ≡ Running → Each (OneMoreIf s.counts) (step s)
unfolding step
made_step s r = subst (λ p. Each (OneMoreIf s.counts) (step_in p s)) (sym r) (go (drain units s.counts.clock s.core))
  where
    go : (z : Drained) → Each (OneMoreIf s.counts) (begun s z)
    go (clear c) = made_act s c (memory_after (instruction c.registers) (j_word s.j) c.memory) (touched s c (instruction c.registers)) (outcome_of (instruction c.registers) c.memory)
    go (broke c due f) = λ h. absurd (cc h)
