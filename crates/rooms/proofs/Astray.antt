-- A room's machine that is marked or stops at a fault, and an untimed one that is lost or will be: both stay so.
use Rattle.std.proofs.Common.{◌≡◌, ℕ, Bool, true, false, not, ◌&&◌, ◌⊎◌, inl, inr, Option, Some, None, Ok, Err, Result, refl, sym, ap, subst, ◌∙◌}
use Rattle.std.specs.Prelude.{⊤}
use Rattle.std.proofs.lemmas.Bool.{both_ways}
use Rattle.cpu.specs.Instructions.{instruction}
use Rattle.cpu.specs.Programs.{Memory, Outcome, Program, Way, outcome_of, memory_after, reads_of, writes_of, takes_j}
use Rattle.cpu.specs.Programs.Outcome.{goes, tests, waits, issues, halts, fails}
use Rattle.cpu.specs.declared.fault.Fault.{Fault as Rejection}
use Rattle.cpu.specs.declared.registers.Registers.{Registers}
use Rattle.flights.specs.Flights.{Core, Drained, units, drain, later, last_due}
use Rattle.flights.specs.Flights.Drained.{clear, broke}
use Rattle.machine.specs.Steps.{State, acknowledged, went_if, tested, paused, issued, issued_if, halted as has_halted, act, touched, j_word, begun, step_in, step}
use Rattle.flights.specs.Issues.{flight_if}
use Rattle.std.specs.Option.{option_or}
use Rattle.flights.specs.Watch.{first_unit, touch_mark, meet_mark}
use Rattle.flights.specs.declared.fault.Fault.{Fault}
use Rattle.flights.specs.declared.flight.Flight.{Flight}
use Rattle.flights.specs.declared.flight.UnitState.{UnitState}
use Rattle.flights.specs.declared.flight.UnitState.TheVariants.{Idle, Busy, Done}
use Rattle.flights.specs.declared.mark.Mark.{Mark}
use Rattle.machine.specs.declared.phase.Phase.{Phase}
use Rattle.machine.specs.declared.phase.Phase.TheVariants.{Running, Halted, Faulted}
use Rattle.rack.specs.Units.{kind_of}
use Rattle.rack.specs.declared.request.Transfer.{Transfer}
use Rattle.rack.specs.declared.unit.Unit.{Unit as Device}
use Rattle.word.specs.declared.word.Word.{Word}
use Rattle.rooms.proofs.Areas.{none_found}
use Rattle.rooms.proofs.Carry.{Dead}
use Rattle.rooms.proofs.Each.{Each}
use Rattle.rooms.proofs.Eager.{Eager, Life, is_dead, eager_tested, eager_paused, eager_issued, eager_issued_if, eager_asked, eager_halted, eager_act, eager_obeys, eager_begun, eager_step_in, eager_step}
use Rattle.rooms.proofs.Eager.Course.{running, lost}
use Rattle.rooms.proofs.Eager.Life.{holding, dead}
use Rattle.flights.proofs.Stores.{at_other}

-- ---- a room's machine ----
abbrev pub Failed : Phase → Type 0
Failed Running = ⊥
Failed Halted = ⊥
Failed (Faulted f) = ⊤

abbrev pub Marked : Option Mark → Type 0
Marked None = ⊥
Marked (Some k) = ⊤

abbrev pub Bad : State → Type 0
Bad s = Failed s.phase ⊎ Marked s.mark

-- a mark is kept; one more makes a mark
pub mark_stays : (a b : Option Mark) → Marked a → Marked (option_or a b)
mark_stays None b h = absurd h
mark_stays (Some k) b h = tt

pub mark_made : (a : Option Mark) (k : Mark) → Marked (option_or a (Some k))
mark_made None k = tt
mark_made (Some m) k = tt

pub bad_went : (s : State) (c d : Core) (m : Memory) (t : ℕ) (a : Option Mark) (w : Result Way Rejection) → Marked a → Bad (went_if s c d m t a w)
bad_went s c d m t a (Ok w) h = inr h
bad_went s c d m t a (Err f) h = inl tt

-- a step with a mark leaves one, or fails
pub bad_act : (s : State) (c : Core) (m : Memory) (a : Option Mark) (o : Outcome) → Marked a → Each Bad (act s c m a o)
bad_act s c m a (goes t w) h = inr h
bad_act s c m a (tests t u busy free) h = go (c.states u.number)
  where
    go : (z : UnitState) → Bad (tested s c m t u.number busy free a z)
    go Idle = bad_went s c c m t a free h
    go (Busy x due) = bad_went s c c m t _ busy (mark_made a _)
    go (Done x) = bad_went s c (acknowledged u.number c) m t _ free (mark_made a _)
bad_act s c m a (waits t u r) h = go (c.states u.number)
  where
    go : (z : UnitState) → Bad (paused s c t u.number r a z)
    go Idle = inr h
    go (Busy x due) = inr h
    go (Done x) = inr h
bad_act s c m a (issues t u x v r) h = go (flight_if u x v c.registers.location (c.units u.number) (kind_of u.number))
  where
    at : (now : ℕ) (y : Flight) (z : Drained) → Each Bad (issued s now t u r a y z)
    at now y (clear d) = λ told. inr (mark_stays a _ h)
    at now y (broke d due f) = inl tt

    go : (y : Result Flight Fault) → Each Bad (issued_if s c t u r a y)
    go (Ok y) = at (later s.counts.clock (c.states u.number)) y (drain units (later s.counts.clock (c.states u.number)) c)
    go (Err f) = inl tt
bad_act s c m a (halts t r) h = go (last_due units s.counts.clock c.states) (drain units (last_due units s.counts.clock c.states) c)
  where
    go : (now : ℕ) (z : Drained) → Bad (has_halted s now t r a z)
    go now (clear d) = inr h
    go now (broke d due f) = inl tt
bad_act s c m a (fails f) h = inl tt

-- what is bad stays bad
pub bad_step : (s : State) → Bad s → Each Bad (step s)
unfolding step
bad_step s (inl h) = go s.phase h
  where
    go : (p : Phase) → Failed p → Each Bad (step_in p s)
    go Running g = absurd g
    go Halted g = absurd g
    go (Faulted f) g = inl h
bad_step s (inr h) = go s.phase
  where
    at : (z : Drained) → Each Bad (begun s z)
    at (clear c) = bad_act s c (memory_after (instruction c.registers) (j_word s.j) c.memory) (touched s c (instruction c.registers)) (outcome_of (instruction c.registers) c.memory) (mark_stays s.mark _ h)
    at (broke c due f) = inl tt

    go : (p : Phase) → Each Bad (step_in p s)
    go Running = at (drain units s.counts.clock s.core)
    go Halted = inr h
    go (Faulted f) = inr h

-- ---- the untimed machine ----
abbrev pub Doomed : Eager → Type 0
Doomed e = (Dead e × (e.course ≡ running)) ⊎ (e.course ≡ lost)

-- a dead unit stays dead until the machine is lost
pub dead_asked : (e : Eager) → Dead e → (t : ℕ) (u : Device) (x : Transfer) (v : Word) (r : Registers) (l : Life) → e.units u.number ≡ l → Doomed (eager_asked e t u x v r l)
dead_asked e h t u x v r dead i = inr refl
dead_asked e h t u x v r (holding g) i = go (flight_if u x v e.registers.location g (kind_of u.number))
  where
    at : (y : Flight) (k : Option Mark) → Doomed (eager_issued e t u.number r g y k)
    at y None = inl ((h.0, h.1, at_other e.units u.number _ h.0 (λ j. absurd (cc (ap e.units j, h.2, i))) ∙ h.2), refl)
    at y (Some k) = inr refl

    go : (y : Result Flight Fault) → Doomed (eager_issued_if e t u.number r g y)
    go (Ok y) = at y (meet_mark e.opens u.number y y.location)
    go (Err f) = inr refl

pub dead_halted : (e : Eager) → Dead e → (t : ℕ) (r : Registers) → Doomed (eager_halted e t r (first_unit units (λ u. is_dead (e.units u))))
dead_halted e h t r = go (first_unit units (λ u. is_dead (e.units u))) refl
  where
    go : (o : Option ℕ) → first_unit units (λ u. is_dead (e.units u)) ≡ o → Doomed (eager_halted e t r o)
    go None i = absurd (both_ways (is_dead (e.units h.0)) (none_found units (λ u. is_dead (e.units u)) i h.0 h.1) (ap is_dead h.2))
    go (Some u) i = inr refl

dead_act : (e : Eager) → Dead e → (m : Memory) (o : Outcome) → Doomed (eager_act e m o)
dead_act e h m (goes t w) = inl (h, refl)
dead_act e h m (tests t u busy free) = go free (e.opens u.number)
  where
    go : (w : Result Way Rejection) (o : Option Flight) → Doomed (eager_tested e m t w o)
    go (Ok w) None = inl (h, refl)
    go (Err f) None = inr refl
    go w (Some x) = inr refl
dead_act e h m (waits t u r) = go (e.opens u.number) (e.units u.number)
  where
    go : (o : Option Flight) (l : Life) → Doomed (eager_paused e t u.number r o l)
    go None l = inl (h, refl)
    go (Some x) (holding g) = inl (h, refl)
    go (Some x) dead = inr refl
dead_act e h m (issues t u x v r) = dead_asked e h t u x v r (e.units u.number) refl
dead_act e h m (halts t r) = dead_halted e h t r
dead_act e h m (fails f) = inr refl

pub dead_begun : (e : Eager) → Dead e → (p : Program) → Doomed (eager_begun e p)
dead_begun e h p = go (touch_mark e.opens (reads_of p e.memory) (writes_of p e.memory) e.registers.location) (not e.j.settled && takes_j p e.memory)
  where
    go : (k : Option Mark) (b : Bool) → Doomed (eager_obeys e p k b)
    go None false = dead_act e h (memory_after p (j_word e.j) e.memory) (outcome_of p e.memory)
    go None true = inr refl
    go (Some k) b = inr refl

-- what is doomed stays doomed
pub doomed_step : (e : Eager) → Doomed e → Doomed (eager_step e)
unfolding eager_step
doomed_step e (inl h) = subst (λ p. Doomed (eager_step_in p e)) (sym h.1) (dead_begun e h.0 (instruction e.registers))
doomed_step e (inr h) = subst (λ p. Doomed (eager_step_in p e)) (sym h) (inr h)
