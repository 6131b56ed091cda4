-- What an instruction comes to, as the code makes it.
use Rattle.std.proofs.Common.{◌≡◌, ℕ, zero, suc, ◌^◌, ◌<◌, Ok, Err, Option, Result, sym, ap, subst, ◌∙◌, arith}
use Rattle.cpu.specs.declared.registers.Registers.{Registers}
use Rattle.flights.specs.Flights.{Core, Drained, States, drain, last_due, later, units}
use Rattle.flights.specs.Flights.Drained.{clear, broke}
use Rattle.flights.specs.Stands.{Issues}
use Rattle.flights.specs.declared.fault.Fault.{Fault}
use Rattle.flights.specs.declared.flight.Flight.{Flight}
use Rattle.flights.specs.declared.flight.UnitState.{UnitState}
use Rattle.flights.specs.declared.flight.UnitState.TheVariants.{Idle, Busy, Done}
use Rattle.flights.specs.declared.issue.Issue.{Issue}
use Rattle.flights.specs.declared.mark.Mark.{Mark}
use Rattle.machine.specs.Acts.{Came, Launched, WaitedTo, launched}
use Rattle.machine.specs.Runs.{Comes}
use Rattle.machine.specs.Small.{Small}
use Rattle.machine.specs.Steps.{State, issued, issued_if, until}
use Rattle.machine.specs.declared.counts.Counts.{Counts}
use Rattle.rack.specs.Units.{Holdings}
use Rattle.rack.specs.declared.request.Request.{Request}
use Rattle.rack.specs.declared.unit.Unit.{Unit as Device}

-- the counts after a wait that came to its end
pub waited_counts : {T : Type 0} (z : Drained) (t : ℕ) (s s′ : State) (x : T) → WaitedTo z t s s′ (Ok x) → s′.counts ≡ until t s.counts
waited_counts (clear c) t s s′ x w = ap (λ q. q.counts) w
waited_counts (broke c due f) t s s′ x w = absurd w

-- counts that were small are so after a wait until a time that is
pub small_waited : (n m : Counts) (t : ℕ) → m ≡ until t n → Small (2 ^ 61) n → t < 2 ^ 61 → Small (2 ^ 63) m
small_waited n m t e h l =
    let a = h.clock in let b = h.working_time in let c = h.waiting in let d = h.told in let f = h.working_steps in let g = h.waiting_steps in
    subst (Small (2 ^ 63)) (sym e) (record { clock = omega arith; working_time = omega arith; waiting = omega arith; told = omega arith; working_steps = omega arith; waiting_steps = omega arith })

-- what all is under way is due below a bound
pub last_below : (n t b : ℕ) (s : States) → t < b → ((u : ℕ) → later t (s u) < b) → last_due n t s < b
unfolding last_due
last_below zero t b s l h = l
last_below (suc n) t b s l h = go (s n) (h n) (last_below n t b s l h)
  where
    go : (z : UnitState) → later t z < b → last_due n t s < b → later (last_due n t s) z < b
    go Idle p q = q
    go (Busy x due) p q = omega arith
    go (Done x) p q = q

module _ {R : Type 0} (holds : R → Holdings) (tells : R → Request → ℕ) where
  issued_at : {T : Type 0} (z : Drained) (now t : ℕ) (u : Device) (s s′ q : State) (r : Registers) (a : Option Mark) (y : Flight) (x : T)
      → WaitedTo z now s s′ (Ok x) → Launched holds tells t u r a y s′ q → Comes holds tells (issued s now t u r a y z) q
  issued_at (clear c) now t u s s′ q r a y x w l =
      (l.0, l.1 ∙ ap (λ n. n.core.units) w, l.2 ∙ ap (launched (tells l.0 (record { unit = u; transfer = y.transfer })) t u r a y) w)
  issued_at (broke c due f) now t u s s′ q r a y x w l = absurd w

  pub issue_at : {T : Type 0} (f : Result Flight Fault) (i : Issue) (t : ℕ) (u : Device) (s s′ q : State) (c : Core) (r : Registers) (a : Option Mark) (x : T)
      → Issues u f (Ok i) → WaitedTo (drain units (later s.counts.clock (c.states u.number)) c) (later s.counts.clock (c.states u.number)) s s′ (Ok x)
      → Launched holds tells t i.unit r a i.flight s′ q → Came holds tells (issued_if s c t u r a f) (Ok x) q
  issue_at (Ok y) i t u s s′ q c r a x h w l =
      let now = later s.counts.clock (c.states u.number) in
      issued_at (drain units now c) now t u s s′ q r a y x w (subst (λ y. Launched holds tells t u r a y s′ q) h.1 (subst (λ u. Launched holds tells t u r a i.flight s′ q) h.0 l))
  issue_at (Err f) i t u s s′ q c r a x h w l = absurd h
