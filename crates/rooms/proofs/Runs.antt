-- Runs of the untimed machine: a halted machine stays, a doomed one stays doomed, and working steps grow.
use Rattle.std.proofs.Common.{◌≡◌, ℕ, zero, suc, ◌<◌, ◌≤◌, max, Bool, true, false, not, ◌&&◌, ◌⊎◌, inl, inr, Option, Some, None, Ok, Err, Result, refl, sym, ap, subst, ◌∙◌, arith}
use Rattle.std.proofs.lemmas.Bool.{cases_eq}
use Rattle.cpu.specs.Instructions.{instruction}
use Rattle.cpu.specs.Programs.{Memory, Outcome, Program, Way, outcome_of, memory_after, reads_of, writes_of, takes_j}
use Rattle.cpu.specs.Programs.Outcome.{goes, tests, waits, issues, halts, fails}
use Rattle.cpu.specs.declared.fault.Fault.{Fault as Rejection}
use Rattle.flights.specs.Flights.{units}
use Rattle.machine.specs.Steps.{j_word}
use Rattle.flights.specs.Issues.{flight_if}
use Rattle.flights.specs.Watch.{first_unit, touch_mark, meet_mark}
use Rattle.flights.specs.declared.fault.Fault.{Fault}
use Rattle.flights.specs.declared.flight.Flight.{Flight}
use Rattle.flights.specs.declared.mark.Mark.{Mark}
use Rattle.rack.specs.Units.{kind_of}
use Rattle.rooms.proofs.Astray.{Doomed, doomed_step}
use Rattle.rooms.proofs.Eager.{Course, Eager, Life, is_dead, eager_tested, eager_paused, eager_issued, eager_issued_if, eager_asked, eager_halted, eager_act, eager_obeys, eager_begun, eager_step_in, eager_step}
use Rattle.rooms.proofs.Eager.Course.{running, halted, lost}
use Rattle.rooms.proofs.Eager.Life.{holding, dead}

unfoldable pub eager_run : ℕ → Eager → Eager
eager_run zero e = e
eager_run (suc n) e = eager_step (eager_run n e)

step_at : (e : Eager) (c : Course) → e.course ≡ c → eager_step e ≡ eager_step_in c e
unfolding eager_step
step_at e c i = ap (λ c. eager_step_in c e) i

module _ (e : Eager) where
  pub stays : (n m : ℕ) → (eager_run n e).course ≡ halted → n ≤ m → eager_run m e ≡ eager_run n e
  unfolding eager_run
  stays n zero h l = let i : n ≡ 0 = omega arith in ap (λ k. eager_run k e) (sym i)
  stays n (suc m) h l = go (cases_eq n (suc m)) (λ k. stays n m h k)
    where
      go : (n ≡ suc m) ⊎ (n ≡ suc m → ⊥) → (n ≤ m → eager_run m e ≡ eager_run n e) → eager_run (suc m) e ≡ eager_run n e
      go (inl i) r = ap (λ k. eager_run k e) (sym i)
      go (inr i) r = ap eager_step (r (omega arith)) ∙ step_at (eager_run n e) halted h

  dooms : (n m : ℕ) → Doomed (eager_run n e) → n ≤ m → Doomed (eager_run m e)
  unfolding eager_run
  dooms n zero h l = let i : n ≡ 0 = omega arith in subst (λ k. Doomed (eager_run k e)) i h
  dooms n (suc m) h l = go (cases_eq n (suc m)) (λ k. dooms n m h k)
    where
      go : (n ≡ suc m) ⊎ (n ≡ suc m → ⊥) → (n ≤ m → Doomed (eager_run m e)) → Doomed (eager_run (suc m) e)
      go (inl i) r = subst (λ k. Doomed (eager_run k e)) i h
      go (inr i) r = doomed_step (eager_run m e) (r (omega arith))

  not_doomed : (f : Eager) → f.course ≡ halted → Doomed f → ⊥
  not_doomed f h (inl d) = cc (sym h ∙ d.1)
  not_doomed f h (inr d) = cc (sym h ∙ d)

  -- a machine that halts was never doomed, and never will be
  pub safe : (n m : ℕ) → (eager_run n e).course ≡ halted → Doomed (eager_run m e) → ⊥
  safe n m h d = not_doomed (eager_run n e) h (subst Doomed (stays n (max n m) h (omega arith)) (dooms m (max n m) d (omega arith)))

-- a step is counted, or the machine is lost
abbrev Counted : Eager → Eager → Type 0
Counted e f = (f.course ≡ lost → ⊥) → f.steps ≡ suc e.steps

counted_act : (e : Eager) (m : Memory) (o : Outcome) → Counted e (eager_act e m o)
counted_act e m (goes t w) = λ h. refl
counted_act e m (tests t u busy free) = go free (e.opens u.number)
  where
    go : (w : Result Way Rejection) (o : Option Flight) → Counted e (eager_tested e m t w o)
    go (Ok w) None = λ h. refl
    go (Err f) None = λ h. absurd (h refl)
    go w (Some x) = λ h. absurd (h refl)
counted_act e m (waits t u r) = go (e.opens u.number) (e.units u.number)
  where
    go : (o : Option Flight) (l : Life) → Counted e (eager_paused e t u.number r o l)
    go None l = λ h. refl
    go (Some x) (holding k) = λ h. refl
    go (Some x) dead = λ h. absurd (h refl)
counted_act e m (issues t u x v r) = go (e.units u.number)
  where
    met : (k : Option Mark) → (h : _) (y : Flight) → Counted e (eager_issued e t u.number r h y k)
    met None h y = λ i. refl
    met (Some k) h y = λ i. absurd (i refl)

    at : (h : _) (y : Result Flight Fault) → Counted e (eager_issued_if e t u.number r h y)
    at h (Ok y) = met (meet_mark e.opens u.number y y.location) h y
    at h (Err f) = λ i. absurd (i refl)

    go : (l : Life) → Counted e (eager_asked e t u x v r l)
    go (holding h) = at h (flight_if u x v e.registers.location h (kind_of u.number))
    go dead = λ h. absurd (h refl)
counted_act e m (halts t r) = go (first_unit units (λ u. is_dead (e.units u)))
  where
    go : (o : Option ℕ) → Counted e (eager_halted e t r o)
    go None = λ h. refl
    go (Some u) = λ h. absurd (h refl)
counted_act e m (fails f) = λ h. absurd (h refl)

counted_begun : (e : Eager) (p : Program) → Counted e (eager_begun e p)
counted_begun e p = go (touch_mark e.opens (reads_of p e.memory) (writes_of p e.memory) e.registers.location) (not e.j.settled && takes_j p e.memory)
  where
    go : (k : Option Mark) (b : Bool) → Counted e (eager_obeys e p k b)
    go None false = counted_act e (memory_after p (j_word e.j) e.memory) (outcome_of p e.memory)
    go None true = λ h. absurd (h refl)
    go (Some k) b = λ h. absurd (h refl)

counted_step : (e : Eager) → e.course ≡ running → Counted e (eager_step e)
counted_step e i = subst (Counted e) (sym (step_at e running i)) (counted_begun e (instruction e.registers))

-- from a running machine on, the steps grow
pub grows : (e : Eager) (m n : ℕ) → m < n → (eager_run m e).course ≡ running → ((eager_run n e).course ≡ lost → ⊥) → (eager_run m e).steps < (eager_run n e).steps
unfolding eager_run
grows e m zero l r f = absurd (omega arith)
grows e m (suc n) l r f = go (eager_run n e).course refl (cases_eq m n) (λ k g. grows e m n k r g)
  where
    still : (c : Course) → (eager_run n e).course ≡ c → eager_step_in c (eager_run n e) ≡ eager_run n e → eager_step (eager_run n e) ≡ eager_run n e
    still c i j = step_at (eager_run n e) c i ∙ j

    go : (c : Course) → (eager_run n e).course ≡ c → (m ≡ n) ⊎ (m ≡ n → ⊥) → (m < n → ((eager_run n e).course ≡ lost → ⊥) → (eager_run m e).steps < (eager_run n e).steps)
        → (eager_run m e).steps < (eager_step (eager_run n e)).steps
    go lost i k below = absurd (f (ap (λ q. q.course) (still lost i refl) ∙ i))
    go halted i (inl j) below = absurd (cc (sym i ∙ subst (λ k. (eager_run k e).course ≡ running) j r))
    go halted i (inr j) below =
        subst (λ (q : Eager). (eager_run m e).steps < q.steps) (sym (still halted i refl))
        (below (omega arith) (λ k. f (ap (λ q. q.course) (still halted i refl) ∙ k)))
    go running i (inl j) below =
        let a = counted_step (eager_run n e) i f in
        let b = ap (λ k. (eager_run k e).steps) j in
        omega arith
    go running i (inr j) below =
        let a = counted_step (eager_run n e) i f in
        let b = below (omega arith) (λ k. absurd (cc (sym i ∙ k))) in
        omega arith
