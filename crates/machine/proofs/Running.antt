-- The counts over a run, and the steps that it makes.
use Rattle.std.proofs.Common.{◌≡◌, ℕ, zero, suc, ◌+◌, ◌*◌, ◌^◌, ◌<◌, ◌≤◌, Bool, true, false, cond, not, ◌||◌, eqb, ltb, leb, Some, None, refl, sym, ap, subst, ◌⊎◌, inl, inr, arith, add-one, ltb-true, ltb-false, leb-false}
use Rattle.std.proofs.lemmas.Bool.{cases_eq}
use Rattle.std.proofs.lemmas.Bool.Decides.{nat_tests}
use Rattle.flights.specs.Flights.{later, units}
use Rattle.flights.specs.declared.flight.UnitState.{UnitState}
use Rattle.flights.specs.declared.flight.UnitState.TheVariants.{Idle, Busy, Done}
use Rattle.machine.specs.Bounds.{Clocks, Dues, Used}
use Rattle.machine.specs.Runs.{Comes, Steps, granting, is_running, refused}
use Rattle.machine.specs.Small.{Low, Sane}
use Rattle.machine.specs.Steps.{State, Step, step}
use Rattle.machine.specs.Steps.Step.{ready, asks}
use Rattle.machine.specs.declared.counts.Counts.{Counts}
use Rattle.machine.specs.declared.phase.Phase.{Phase}
use Rattle.machine.specs.declared.phase.Phase.TheVariants.{Running, Halted, Faulted}
use Rattle.machine.specs.declared.phase.RunRefusal.TheVariants.{Budget, NotRunning, ClockPast}
use Rattle.machine.proofs.Counting.{Bound, Clocked, Each, Grown, Inv, Made, inv_step, made_step}
use Rattle.machine.proofs.Stepping.{step_still}
use Rattle.rack.specs.Units.{Holdings}
use Rattle.rack.specs.declared.request.Request.{Request}

-- what a machine's counts say of each unit, and back
bound : (n : Counts) (u : ℕ) (z : UnitState) → (n.waiting + later n.clock z ≤ n.told + n.clock) × (later n.clock z ≤ n.clock + 65535) → (units ≤ u → z ≡ Idle) → Bound n u z
bound n u Idle h l = tt
bound n u (Done x) h l = tt
bound n u (Busy x due) h l = go (ltb u units) refl
  where
    go : (b : Bool) → ltb u units ≡ b → Bound n u (Busy x due)
    go true e = let a = h.0 in let b = h.1 in (omega arith, ltb-true u units e, omega arith)
    go false e = absurd (cc (l (ltb-false u units e)))

due : (n : Counts) → Clocked n → (u : ℕ) (z : UnitState) → Bound n u z → (n.waiting + later n.clock z ≤ n.told + n.clock) × (later n.clock z ≤ n.clock + 65535)
due n q u Idle h = let w = q.waiting in (omega arith, omega arith)
due n q u (Busy x t) h = let w = q.waiting in let a = h.0 in let b = h.2 in (omega arith, omega arith)
due n q u (Done x) h = let w = q.waiting in (omega arith, omega arith)

pub inv_sane : (s : State) → Sane s → Inv s
inv_sane s h = record {
  counts = record { clock = h.clocks.0; waiting = h.clocks.1; steps = h.clocks.3; working = h.clocks.2; told = h.clocks.4 };
  dues = λ u. bound s.counts u (s.core.states u) (h.dues u) (h.beyond u);
}

pub clocks_inv : (s : State) → Inv s → Clocks s.counts
clocks_inv s i = let c = i.counts in (c.clock, c.waiting, c.working, c.steps, c.told)

pub dues_inv : (s : State) → Inv s → Dues s.counts s.core.states
dues_inv s i = λ u. due s.counts i.counts u (s.core.states u) (i.dues u)

inv_granting : (b : ℕ) (s : State) → Inv s → Inv (granting b s)
inv_granting b s i = record {
  counts = record { clock = i.counts.clock; waiting = i.counts.waiting; steps = i.counts.steps; working = i.counts.working; told = i.counts.told };
  dues = λ u. go u (s.core.states u) (i.dues u);
}
  where
    go : (u : ℕ) (z : UnitState) → Bound s.counts u z → Bound (granting b s).counts u z
    go u Idle h = tt
    go u (Busy x t) h = h
    go u (Done x) h = tt

pub not_running : (p : Phase) → is_running p ≡ false → p ≡ Running → ⊥
not_running Running e i = cc e
not_running Halted e i = cc i
not_running (Faulted f) e i = cc i

-- an accepted run
pub record Accepted (b : ℕ) (s : State) : Type 0 where
  pub some : 0 < b
  pub budget : b ≤ 1000000
  pub running : s.phase ≡ Running
  pub clock : s.counts.clock < 10 ^ 15

runs_if : (p : Phase) → not (is_running p) ≡ false → p ≡ Running
runs_if Running h = refl
runs_if Halted h = absurd (cc h)
runs_if (Faulted f) h = absurd (cc h)

pub accepted : (b : ℕ) (s : State) → refused b s ≡ None → Accepted b s
accepted b s h = go (eqb b 0 || ltb 1000000 b) (not (is_running s.phase)) (leb (10 ^ 15) s.counts.clock) refl refl refl h
  where
    go : (x y z : Bool) → (eqb b 0 || ltb 1000000 b) ≡ x → not (is_running s.phase) ≡ y → leb (10 ^ 15) s.counts.clock ≡ z → cond x (Some Budget) (cond y (Some NotRunning) (cond z (Some ClockPast) None)) ≡ None → Accepted b s
    go true y z i j k h = absurd (cc h)
    go false true z i j k h = absurd (cc h)
    go false false true i j k h = absurd (cc h)
    go false false false i j k h = record { some = grind (arith, nat_tests); budget = grind (arith, nat_tests); running = runs_if s.phase j; clock = leb-false (10 ^ 15) s.counts.clock k }

module _ {R : Type 0} (holds : R → Holdings) (tells : R → Request → ℕ) where
  -- one step more
  steps_more : (n : ℕ) (s t u : State) → Steps holds tells n s t → Comes holds tells (step t) u → Steps holds tells (suc n) s u
  steps_more zero s t u w c = (u, subst (λ t. Comes holds tells (step t) u) w c, refl)
  steps_more (suc n) s t u w c = (w.0, w.1, steps_more n w.0 t u w.2 c)

  pub steps_next : (n : ℕ) (s t u : State) → Steps holds tells n s t → Comes holds tells (step t) u → Steps holds tells (n + 1) s u
  steps_next n s t u w c = rw add-one (steps_more n s t u w c)

  -- a machine that has stopped makes the steps that are left
  pub steps_stopped : (n m : ℕ) (s t : State) → Steps holds tells n s t → (t.phase ≡ Running → ⊥) → n ≤ m → Steps holds tells m s t
  steps_stopped n zero s t w f l = let e : n ≡ 0 = omega arith in subst (λ k. Steps holds tells k s t) e w
  steps_stopped n (suc m) s t w f l = go (cases_eq n (suc m)) (λ k. steps_stopped n m s t w f k)
    where
      go : (n ≡ suc m) ⊎ (n ≡ suc m → ⊥) → (n ≤ m → Steps holds tells m s t) → Steps holds tells (suc m) s t
      go (inl e) below = subst (λ k. Steps holds tells k s t) e w
      go (inr e) below = steps_more m s t t (below (omega arith)) (subst (λ z. Comes holds tells z t) (step_still t f) refl)

  module _ (bounded : (r : R) (q : Request) → tells r q ≤ 65535) where
    pub each_comes : (P : State → Type 0) (x : Step) (t : State) → Each P x → Comes holds tells x t → P t
    each_comes P (ready s) t h w = subst P (sym w) h
    each_comes P (asks q u k) t h w = subst P (sym w.2) (h (tells w.0 q) (bounded w.0 q))

    pub steps_inv : (n : ℕ) (s t : State) → Inv s → Steps holds tells n s t → Inv t × (t.counts.clock ≤ s.counts.clock + 70000 * n)
    steps_inv zero s t i w = (subst Inv (sym w) i, (let e = ap (λ (q : State). q.counts.clock) w in omega arith))
    steps_inv (suc n) s t i w =
        let g = each_comes (Grown s) (step s) w.0 (inv_step s i) w.1 in
        let r = steps_inv n w.0 t g.inv w.2 in
        let a = g.clock in let b = r.1 in
        (r.0, omega arith)

    pub steps_used : (n : ℕ) (s t : State) → (s.phase ≡ Running → s.counts.working_steps + s.counts.waiting_steps + n ≡ s.counts.granted) → Steps holds tells n s t
        → t.phase ≡ Running → t.counts.working_steps + t.counts.waiting_steps ≡ t.counts.granted
    steps_used zero s t h w r = let e = h (subst (λ (q : State). q.phase ≡ Running) w r) in let a = ap (λ (q : State). q.counts.working_steps) w in let b = ap (λ (q : State). q.counts.waiting_steps) w in let c = ap (λ (q : State). q.counts.granted) w in omega arith
    steps_used (suc n) s t h w r =
        steps_used n w.0 t (λ i.
        let m = each_comes (λ t. t.phase ≡ Running → (s.phase ≡ Running) × Made s.counts t.counts) (step s) w.0 (made_step s) w.1 i in
        let a = h m.0 in let b = m.1.steps in let c = m.1.granted in omega arith) w.2 r

    -- so the counts have room at each step of a run
    pub low_steps : (b i : ℕ) (s t : State) → Accepted b s → Sane s → i ≤ b → Steps holds tells i (granting b s) t → Low (2 ^ 60) t
    low_steps b i s t a h l w =
        let r = steps_inv i (granting b s) t (inv_granting b s (inv_sane s h)) w in
        let q = r.0.counts in
        let c = r.1 in let k = a.clock in let m = a.budget in
        let e1 = q.clock in let e2 = q.waiting in let e3 = q.steps in let e4 = q.working in let e5 = q.told in
        let low : t.counts.clock < 2 ^ 59 = omega arith in
        record {
          counts = record { clock = omega arith; working_time = omega arith; waiting = omega arith; told = omega arith; working_steps = omega arith; waiting_steps = omega arith };
          dues = λ u. let d = (dues_inv t r.0 u).1 in omega arith;
        }

    -- and what holds between calls holds after a run
    pub kept_run : (b : ℕ) (s t : State) → Sane s → Steps holds tells b (granting b s) t → Clocks t.counts × Used t.counts t.phase × Dues t.counts t.core.states
    kept_run b s t h w =
        let i = (steps_inv b (granting b s) t (inv_granting b s (inv_sane s h)) w).0 in
        (clocks_inv t i, (λ r. sym (steps_used b (granting b s) t (λ q. let e = h.used q in omega arith) w r)), dues_inv t i)
