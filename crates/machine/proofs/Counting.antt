-- The counts of a machine over a step: the clock, the waiting and the times told, and the steps made.
use Rattle.std.proofs.Common.{◌≡◌, ℕ, zero, suc, ◌+◌, ◌*◌, ◌<◌, ◌≤◌, Option, Ok, Err, Result, refl, sym, subst, ◌∙◌, arith}
use Rattle.std.specs.Prelude.{⊤}
use Rattle.machine.specs.Steps.{Step}
use Rattle.machine.specs.Steps.Step.{ready, asks}
use Rattle.cpu.specs.Instructions.{instruction}
use Rattle.cpu.specs.Programs.{Memory, Outcome, Way, outcome_of, memory_after}
use Rattle.cpu.specs.Programs.Outcome.{goes, tests, waits, issues, halts, fails}
use Rattle.cpu.specs.declared.fault.Fault.{Fault as Rejection}
use Rattle.cpu.specs.declared.registers.Registers.{Registers}
use Rattle.flights.specs.Flights.{Core, States, Drained, units, with_state, drain, later, last_due}
use Rattle.flights.specs.Flights.Drained.{clear, broke}
use Rattle.flights.specs.Flights.Next.{nothing}
use Rattle.machine.specs.Steps.{State, worked, waited, until, telling, acknowledged, went_if, tested, paused, issued, issued_if, halted as has_halted, act, touched, j_word, begun, step_in, step}
use Rattle.flights.specs.Issues.{flight_if}
use Rattle.machine.specs.declared.counts.Counts.{Counts}
use Rattle.flights.specs.declared.fault.Fault.{Fault}
use Rattle.flights.specs.declared.flight.Flight.{Flight}
use Rattle.flights.specs.declared.flight.UnitState.{UnitState}
use Rattle.flights.specs.declared.flight.UnitState.TheVariants.{Idle, Busy, Done}
use Rattle.flights.specs.declared.mark.Mark.{Mark}
use Rattle.machine.specs.declared.phase.Phase.{Phase}
use Rattle.machine.specs.declared.phase.Phase.TheVariants.{Running, Halted, Faulted}
use Rattle.rack.specs.Units.{kind_of}
use Rattle.rack.specs.declared.unit.Unit.{Unit as Device}
use Rattle.flights.proofs.Dues.{Found, Held, drain_held, Left, drain_left, later_more, last_more}
use Rattle.flights.proofs.Bounds.{flight_unit}
use Rattle.flights.proofs.Stores.{all_at}
use Rattle.cpu.specs.Laws.{Timed as Paced}
use Rattle.cpu.proofs.Laws.{instruction_laws}

-- what holds after a step, whatever time up to 65,535 is told
abbrev pub Each : (State → Type 0) → Step → Type 0
Each P (ready s) = P s
Each P (asks q h k) = (d : ℕ) → d ≤ 65535 → P (k d)

-- a time that an instruction may take
abbrev Timed : ℕ → Type 0
Timed t = (1 ≤ t) × (t ≤ 200)

-- a transfer under way has its time among the times told, and is due soon
abbrev pub Bound : Counts → ℕ → UnitState → Type 0
Bound n u Idle = ⊤
Bound n u (Busy x due) = (n.waiting + due ≤ n.told + n.clock) × (u < units) × (due ≤ n.clock + 65535)
Bound n u (Done x) = ⊤

abbrev pub AllBound : Counts → Core → Type 0
AllBound n c = (u : ℕ) → Bound n u (c.states u)

pub record Clocked (n : Counts) : Type 0 where
  pub clock : n.clock ≡ n.working_time + n.waiting
  pub waiting : n.waiting ≤ n.told
  pub steps : n.waiting_steps ≤ n.waiting
  pub working : n.working_steps ≤ n.working_time
  pub told : n.told ≤ 65535 * n.working_steps

pub record Inv (s : State) : Type 0 where
  pub counts : Clocked s.counts
  pub dues : AllBound s.counts s.core

-- what a step leads to, and how far the clock goes on at most
pub record Grown (s t : State) : Type 0 where
  pub inv : Inv t
  pub clock : t.counts.clock ≤ s.counts.clock + 70000

-- the bounds stay where the clock less the waiting does not fall, nor the times told
bound_more : (n m : Counts) → m.waiting + n.clock ≤ n.waiting + m.clock → n.told ≤ m.told → n.clock ≤ m.clock → (u : ℕ) (z : UnitState) → Bound n u z → Bound m u z
bound_more n m a b c u Idle h = tt
bound_more n m a b c u (Busy x due) h = let e = h.0 in let f = h.2 in (omega arith, h.1, omega arith)
bound_more n m a b c u (Done x) h = tt

-- what is under way is due after a time
abbrev DueAfter : ℕ → ℕ → UnitState → Type 0
DueAfter t u Idle = ⊤
DueAfter t u (Busy x due) = t < due
DueAfter t u (Done x) = ⊤

-- what stands once all that is due by the clock is carried out
record Mid (n : Counts) (c : Core) : Type 0 where
  dues : AllBound n c
  after : (u : ℕ) → DueAfter n.clock u (c.states u)

mid : (n : Counts) (c : Core) → AllBound n c → Found units n.clock c.states nothing → Mid n c
mid n c b f = record { dues = b; after = λ u. go u (c.states u) refl (b u) }
  where
    go : (u : ℕ) (z : UnitState) → c.states u ≡ z → Bound n u z → DueAfter n.clock u z
    go u Idle i h = tt
    go u (Busy x due) i h = f u h.1 x due i
    go u (Done x) i h = tt

-- after a wait until a time, or until a transfer is rejected
abbrev Waited : Counts → ℕ → Drained → Type 0
Waited n t (clear c) = Clocked (until t n) × AllBound (until t n) c × (t ≤ n.clock + 65535)
Waited n t (broke c due f) = Clocked (until due n) × AllBound (until due n) c × (due ≤ n.clock + 65535)

module _ (n : Counts) (q : Clocked n) where
  waited_to : (c : Core) → AllBound n c → (t : ℕ) → n.clock ≤ t → n.waiting + t ≤ n.told + n.clock → t ≤ n.clock + 65535 → Clocked (until t n) × AllBound (until t n) c × (t ≤ n.clock + 65535)
  waited_to c b t g h k =
      let a = q.clock in let w = q.waiting in let s = q.steps in (
        record { clock = omega arith; waiting = omega arith; steps = omega arith; working = q.working; told = q.told },
        λ u. bound_more n (until t n) (omega arith) (omega arith) g u (c.states u) (b u),
        k,
      )

  wait : (t : ℕ) → n.clock ≤ t → n.waiting + t ≤ n.told + n.clock → t ≤ n.clock + 65535 → (z : Drained) → Held (λ u y. Bound n u y × DueAfter n.clock u y) (λ u x. (tt, tt)) z → Waited n t z
  wait t g h o (clear c) k = waited_to c (λ u. (k u).0) t g h o
  wait t g h o (broke c due f) k =
      let w = k.1 in
      let a : Bound n w.0 (Busy w.2 due) × DueAfter n.clock w.0 (Busy w.2 due) = subst (λ y. Bound n w.0 y × DueAfter n.clock w.0 y) w.3 (k.0 w.0) in
      let l = a.1 in
      waited_to c (λ u. (k.0 u).0) due (omega arith) a.0.0 a.0.2

  later_told : (u : ℕ) (z : UnitState) → Bound n u z → n.waiting + later n.clock z ≤ n.told + n.clock
  later_told u Idle h = let w = q.waiting in omega arith
  later_told u (Busy x due) h = let w = q.waiting in let e = h.0 in omega arith
  later_told u (Done x) h = let w = q.waiting in omega arith

  last_told : (k : ℕ) (s : States) → ((u : ℕ) → Bound n u (s u)) → n.waiting + last_due k n.clock s ≤ n.told + n.clock
  unfolding last_due
  last_told zero s h = let w = q.waiting in omega arith
  last_told (suc k) s h = go (s k) (h k) (last_told k s h)
    where
      go : (z : UnitState) → Bound n k z → n.waiting + last_due k n.clock s ≤ n.told + n.clock → n.waiting + later (last_due k n.clock s) z ≤ n.told + n.clock
      go Idle b i = i
      go (Busy x due) b i = let a = b.0 in omega arith
      go (Done x) b i = i

  later_soon : (u : ℕ) (z : UnitState) → Bound n u z → later n.clock z ≤ n.clock + 65535
  later_soon u Idle h = omega arith
  later_soon u (Busy x due) h = let e = h.2 in omega arith
  later_soon u (Done x) h = omega arith

  last_soon : (k : ℕ) (s : States) → ((u : ℕ) → Bound n u (s u)) → last_due k n.clock s ≤ n.clock + 65535
  unfolding last_due
  last_soon zero s h = omega arith
  last_soon (suc k) s h = go (s k) (h k) (last_soon k s h)
    where
      go : (z : UnitState) → Bound n k z → last_due k n.clock s ≤ n.clock + 65535 → later (last_due k n.clock s) z ≤ n.clock + 65535
      go Idle b i = i
      go (Busy x due) b i = let a = b.2 in omega arith
      go (Done x) b i = i

  work : (t : ℕ) → Timed t → Clocked (worked t n)
  work t h =
      let a = q.clock in let w = q.waiting in let s = q.steps in let k = q.working in let d = q.told in let one = h.0 in
      record { clock = omega arith; waiting = omega arith; steps = omega arith; working = omega arith; told = omega arith }

module _ (s : State) (c : Core) (q : Clocked s.counts) (m : Mid s.counts c) where
  worked_bound : (t : ℕ) → AllBound (worked t s.counts) c
  worked_bound t u = bound_more s.counts (worked t s.counts) (omega arith) (omega arith) (omega arith) u (c.states u) (m.dues u)

  -- and with a unit acknowledged
  shut_bound : (t u : ℕ) → (v : ℕ) → Bound (worked t s.counts) v (with_state c.states u Idle v)
  unfolding with_state
  shut_bound t u = all_at (Bound (worked t s.counts)) c.states u Idle tt (λ v n. worked_bound t v)

  one_timed : Timed 1
  one_timed = (omega arith, omega arith)

  inv_paused : (t u : ℕ) (r : Registers) (a : Option Mark) → t ≡ 1 → (z : UnitState) → c.states u ≡ z → Grown s (paused s c t u r a z)
  inv_paused t u r a one Idle i = record { inv = record { counts = work s.counts q t (subst Timed (sym one) one_timed); dues = worked_bound t }; clock = omega arith }
  inv_paused t u r a one (Done x) i = record { inv = record { counts = work s.counts q t (subst Timed (sym one) one_timed); dues = shut_bound t u }; clock = omega arith }
  inv_paused t u r a one (Busy x due) i =
      let b = q.clock in let w = q.waiting in let k = q.steps in
      let d : Bound s.counts u (Busy x due) = subst (Bound s.counts u) i (m.dues u) in
      let f : DueAfter s.counts.clock u (Busy x due) = subst (DueAfter s.counts.clock u) i (m.after u) in
      let e = d.0 in
      record {
        inv = record {
          counts = record { clock = omega arith; waiting = omega arith; steps = omega arith; working = q.working; told = q.told };
          dues = λ v. bound_more s.counts (waited t s.counts) (omega arith) (omega arith) (omega arith) v (c.states v) (m.dues v);
        };
        clock = omega arith;
      }

  inv_went : (t : ℕ) → Timed t → (d : Core) → AllBound (worked t s.counts) d → (n : Memory) (a : Option Mark) (w : Result Way Rejection) → Grown s (went_if s c d n t a w)
  inv_went t l d h n a (Ok w) = let k = l.1 in record { inv = record { counts = work s.counts q t l; dues = h }; clock = omega arith }
  inv_went t l d h n a (Err f) = record { inv = record { counts = q; dues = m.dues }; clock = omega arith }

  inv_tested : (n : Memory) (t u : ℕ) → Timed t → (busy free : Result Way Rejection) (a : Option Mark) (z : UnitState) → Grown s (tested s c n t u busy free a z)
  inv_tested n t u l busy free a Idle = inv_went t l c (worked_bound t) n a free
  inv_tested n t u l busy free a (Busy x due) = inv_went t l c (worked_bound t) n _ busy
  inv_tested n t u l busy free a (Done x) = inv_went t l (acknowledged u c) (shut_bound t u) n _ free

  inv_issued : (now t : ℕ) → Timed t → (u : Device) (r : Registers) (a : Option Mark) (x : Flight) → u.number < units → (z : Drained) → Waited s.counts now z → Each (Grown s) (issued s now t u r a x z)
  unfolding with_state
  inv_issued now t h u r a x l (broke d due f) w = let k = w.2 in record { inv = record { counts = w.0; dues = w.1 }; clock = omega arith }
  inv_issued now t h u r a x l (clear d) w = λ told few.
      let p = w.0.clock in let g = w.0.waiting in let k = w.0.steps in let b = w.0.working in let c = w.0.told in let e = w.2 in let one = h.0 in let most = h.1 in
      let n : Counts = telling told (worked t (until now s.counts)) in
      record {
        inv = record {
          counts = record { clock = omega arith; waiting = omega arith; steps = omega arith; working = omega arith; told = omega arith };
          dues = all_at (Bound n) d.states u.number (Busy x (now + t + told)) (omega arith, l, omega arith) (λ v i. bound_more (until now s.counts) n (omega arith) (omega arith) (omega arith) v (d.states v) (w.1 v));
        };
        clock = omega arith;
      }

  inv_halted : (now t : ℕ) → Timed t → (r : Registers) (a : Option Mark) (z : Drained) → Waited s.counts now z → Grown s (has_halted s now t r a z)
  inv_halted now t h r a (broke d due f) w = let k = w.2 in record { inv = record { counts = w.0; dues = w.1 }; clock = omega arith }
  inv_halted now t h r a (clear d) w = let k = w.2 in let l = h.1 in record { inv = record { counts = work (until now s.counts) w.0 t h; dues = λ u. tt }; clock = omega arith }

  held : (t : ℕ) → Held (λ u y. Bound s.counts u y × DueAfter s.counts.clock u y) (λ u x. (tt, tt)) (drain units t c)
  held t = drain_held (λ u y. Bound s.counts u y × DueAfter s.counts.clock u y) (λ u x. (tt, tt)) units t c (λ u. (m.dues u, m.after u))

  inv_act : (n : Memory) (a : Option Mark) (o : Outcome) → Paced o → Each (Grown s) (act s c n a o)
  inv_act n a (goes t w) p = let k = p.0 in let l = p.1 in record { inv = record { counts = work s.counts q t (omega arith, omega arith); dues = worked_bound t }; clock = omega arith }
  inv_act n a (tests t u busy free) p = inv_tested n t u.number (omega arith, omega arith) busy free a (c.states u.number)
  inv_act n a (waits t u r) p = inv_paused t u.number r a p (c.states u.number) refl
  inv_act n a (issues t u x v r) p = go (flight_if u x v c.registers.location (c.units u.number) (kind_of u.number)) refl
    where
      go : (y : Result Flight Fault) → flight_if u x v c.registers.location (c.units u.number) (kind_of u.number) ≡ y → Each (Grown s) (issued_if s c t u r a y)
      go (Ok y) i =
          let now = later s.counts.clock (c.states u.number) in
          inv_issued now t (omega arith, omega arith) u r a y (flight_unit u x v c.registers.location (c.units u.number) y i) (drain units now c)
          (wait s.counts q now (later_more s.counts.clock (c.states u.number)) (later_told s.counts q u.number (c.states u.number) (m.dues u.number)) (later_soon s.counts q u.number (c.states u.number) (m.dues u.number)) (drain units now c) (held now))
      go (Err f) i = record { inv = record { counts = q; dues = m.dues }; clock = omega arith }
  inv_act n a (halts t r) p =
      let now = last_due units s.counts.clock c.states in
      inv_halted now t (omega arith, omega arith) r a (drain units now c)
      (wait s.counts q now (last_more units s.counts.clock c.states) (last_told s.counts q units c.states m.dues) (last_soon s.counts q units c.states m.dues) (drain units now c) (held now))
  inv_act n a (fails f) p = record { inv = record { counts = q; dues = m.dues }; clock = omega arith }

inv_begun : (s : State) → Clocked s.counts → (z : Drained) → Held (Bound s.counts) (λ u x. tt) z → Left s.counts.clock z → Each (Grown s) (begun s z)
inv_begun s q (broke c due f) h l = record { inv = record { counts = q; dues = h.0 }; clock = omega arith }
inv_begun s q (clear c) h l =
    inv_act s c q (mid s.counts c h l) (memory_after (instruction c.registers) (j_word s.j) c.memory) (touched s c (instruction c.registers)) (outcome_of (instruction c.registers) c.memory) (instruction_laws.timed c.registers c.memory)

pub inv_step : (s : State) → Inv s → Each (Grown s) (step s)
unfolding step
inv_step s i = go s.phase
  where
    go : (p : Phase) → Each (Grown s) (step_in p s)
    go Running = inv_begun s i.counts (drain units s.counts.clock s.core) (drain_held (Bound s.counts) (λ u x. tt) units s.counts.clock s.core i.dues) (drain_left s.counts.clock s.core)
    go Halted = record { inv = i; clock = omega arith }
    go (Faulted f) = record { inv = i; clock = omega arith }

-- ---- steps made ----
-- one more working or waiting step
pub record Made (n m : Counts) : Type 0 where
  pub steps : m.working_steps + m.waiting_steps ≡ suc (n.working_steps + n.waiting_steps)
  pub granted : m.granted ≡ n.granted

-- a step that leaves the machine running is one more
abbrev pub MadeIf : Counts → State → Type 0
MadeIf n t = t.phase ≡ Running → Made n t.counts

made_act : (s : State) (c : Core) (n : Memory) (a : Option Mark) (o : Outcome) → Each (MadeIf s.counts) (act s c n a o)
made_act s c n a (goes t w) = λ h. record { steps = omega arith; granted = refl }
made_act s c n a (tests t u busy free) = go (c.states u.number)
  where
    at : (d : Core) (a : Option Mark) (w : Result Way Rejection) → MadeIf s.counts (went_if s c d n t a w)
    at d a (Ok w) = λ h. record { steps = omega arith; granted = refl }
    at d a (Err f) = λ h. absurd (cc h)

    go : (z : UnitState) → MadeIf s.counts (tested s c n t u.number busy free a z)
    go Idle = at c a free
    go (Busy x due) = at c _ busy
    go (Done x) = at (acknowledged u.number c) _ free
made_act s c n a (waits t u r) = go (c.states u.number)
  where
    go : (z : UnitState) → MadeIf s.counts (paused s c t u.number r a z)
    go Idle = λ h. record { steps = omega arith; granted = refl }
    go (Busy x due) = λ h. record { steps = omega arith; granted = refl }
    go (Done x) = λ h. record { steps = omega arith; granted = refl }
made_act s c n a (issues t u x v r) = go (flight_if u x v c.registers.location (c.units u.number) (kind_of u.number))
  where
    at : (now : ℕ) (y : Flight) (z : Drained) → Each (MadeIf s.counts) (issued s now t u r a y z)
    at now y (clear d) = λ told few h. record { steps = omega arith; granted = refl }
    at now y (broke d due f) = λ h. absurd (cc h)

    go : (y : Result Flight Fault) → Each (MadeIf s.counts) (issued_if s c t u r a y)
    go (Ok y) = at (later s.counts.clock (c.states u.number)) y (drain units (later s.counts.clock (c.states u.number)) c)
    go (Err f) = λ h. absurd (cc h)
made_act s c n a (halts t r) = go (last_due units s.counts.clock c.states) (drain units (last_due units s.counts.clock c.states) c)
  where
    go : (now : ℕ) (z : Drained) → MadeIf s.counts (has_halted s now t r a z)
    go now (clear d) = λ h. absurd (cc h)
    go now (broke d due f) = λ h. absurd (cc h)
made_act s c n a (fails f) = λ h. absurd (cc h)

-- so does a machine that has stopped, which does not run
pub made_step : (s : State) → Each (λ t. t.phase ≡ Running → (s.phase ≡ Running) × Made s.counts t.counts) (step s)
unfolding step
made_step s = go s.phase refl
  where
    ran : s.phase ≡ Running → (x : Step) → Each (MadeIf s.counts) x → Each (λ t. t.phase ≡ Running → (s.phase ≡ Running) × Made s.counts t.counts) x
    ran r (ready t) h = λ i. (r, h i)
    ran r (asks q u k) h = λ d few i. (r, h d few i)

    started : (z : Drained) → Each (MadeIf s.counts) (begun s z)
    started (clear c) = made_act s c (memory_after (instruction c.registers) (j_word s.j) c.memory) (touched s c (instruction c.registers)) (outcome_of (instruction c.registers) c.memory)
    started (broke c due f) = λ h. absurd (cc h)

    go : (p : Phase) → s.phase ≡ p → Each (λ t. t.phase ≡ Running → (s.phase ≡ Running) × Made s.counts t.counts) (step_in p s)
    go Running i = ran i (begun s (drain units s.counts.clock s.core)) (started (drain units s.counts.clock s.core))
    go Halted i = λ r. absurd (cc (sym i ∙ r))
    go (Faulted f) i = λ r. absurd (cc (sym i ∙ r))
