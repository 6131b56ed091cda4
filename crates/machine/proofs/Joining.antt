-- Runs one after the other; machines that have stopped; memory that a step leaves alone.
use Rattle.std.proofs.Common.{◌≡◌, ℕ, zero, suc, ◌+◌, ◌^◌, ◌≤◌, Bool, true, false, cond, not, ◌&&◌, ◌||◌, eqb, ltb, leb, Some, None, Ok, Err, Option, Result, refl, sym, ap, subst, ◌∙◌, arith, add_assoc, zero-add, suc-add}
use Rattle.std.proofs.lemmas.Bool.{lt-leb}
use Rattle.std.proofs.lemmas.Bool.Decides.{nat_tests}
use Rattle.cpu.specs.Instructions.{instruction}
use Rattle.cpu.specs.Programs.{Memory, Outcome, Way, memory_after, outcome_of}
use Rattle.cpu.specs.Programs.Outcome.{goes, tests, waits, issues, halts, fails}
use Rattle.cpu.specs.declared.fault.Fault.{Fault as Rejection}
use Rattle.cpu.specs.declared.registers.Registers.{Registers}
use Rattle.cpu.proofs.Laws.{instruction_laws}
use Rattle.flights.specs.Flights.{Core, Drained, Next, carried, covers, delivered, drain, first_due, given, last_due, later, on_carry, on_due, takes, unit_at, units}
use Rattle.flights.specs.Flights.Drained.{clear, broke}
use Rattle.flights.specs.Flights.Next.{nothing, flies}
use Rattle.flights.specs.Issues.{flight_if}
use Rattle.flights.specs.declared.fault.Fault.{Fault}
use Rattle.flights.specs.declared.flight.Flight.{Flight}
use Rattle.flights.specs.declared.flight.UnitState.{UnitState}
use Rattle.flights.specs.declared.flight.UnitState.TheVariants.{Idle, Busy, Done}
use Rattle.flights.specs.declared.mark.Mark.{Mark}
use Rattle.flights.proofs.Dues.{Found, found}
use Rattle.flights.proofs.States.{with_all}
use Rattle.machine.specs.Laws.{LeftAlone, RunLaws, fills}
use Rattle.machine.specs.Runs.{Comes, Ran, RanIf, Steps, granting, is_running, refused}
use Rattle.machine.specs.Steps.{State, Step, acknowledged, act, begun, halted as has_halted, issued, issued_if, j_word, obeys, paused, step, step_in, tested, touched, went_if}
use Rattle.machine.specs.Steps.Step.{ready, asks}
use Rattle.machine.specs.declared.phase.Phase.{Phase}
use Rattle.machine.specs.declared.phase.Phase.TheVariants.{Running, Halted, Faulted}
use Rattle.machine.specs.declared.phase.RunRefusal.TheVariants.{Budget, NotRunning, ClockPast}
use Rattle.machine.proofs.Running.{accepted}
use Rattle.machine.proofs.Writing.{writes_law}
use Rattle.rack.specs.Transfers.{Answer, perform}
use Rattle.rack.specs.Units.{Holdings, kind_of}
use Rattle.rack.specs.declared.request.Request.{Request}
use Rattle.rack.specs.declared.unit.Unit.{Unit as Device}
use Rattle.word.specs.declared.word.Word.{Word}

-- ---- steps that are granted change no step ----
abbrev each_state : (State → State) → Step → Step
each_state f (ready s) = ready (f s)
each_state f (asks q h k) = asks q h (λ d. f (k d))

module _ (n : ℕ) (s : State) (c : Core) (m : Memory) (a : Option Mark) where
  went_granted : (old d : Core) (t : ℕ) (a : Option Mark) (w : Result Way Rejection) → went_if (granting n s) old d m t a w ≡ granting n (went_if s old d m t a w)
  went_granted old d t a (Ok w) = refl
  went_granted old d t a (Err f) = refl

  tested_granted : (t u : ℕ) (busy free : Result Way Rejection) (z : UnitState) → tested (granting n s) c m t u busy free a z ≡ granting n (tested s c m t u busy free a z)
  tested_granted t u busy free Idle = went_granted c c t a free
  tested_granted t u busy free (Busy x due) = went_granted c c t _ busy
  tested_granted t u busy free (Done x) = went_granted c (acknowledged u c) t _ free

  paused_granted : (t u : ℕ) (r : Registers) (z : UnitState) → paused (granting n s) c t u r a z ≡ granting n (paused s c t u r a z)
  paused_granted t u r Idle = refl
  paused_granted t u r (Busy x due) = refl
  paused_granted t u r (Done x) = refl

  issued_granted : (t : ℕ) (u : Device) (r : Registers) (f : Result Flight Fault) → issued_if (granting n s) c t u r a f ≡ each_state (granting n) (issued_if s c t u r a f)
  issued_granted t u r (Err f) = refl
  issued_granted t u r (Ok y) = go (drain units (later s.counts.clock (c.states u.number)) c)
    where
      go : (z : Drained) → issued (granting n s) (later s.counts.clock (c.states u.number)) t u r a y z ≡ each_state (granting n) (issued s (later s.counts.clock (c.states u.number)) t u r a y z)
      go (clear d) = refl
      go (broke d due f) = refl

  halted_granted : (now t : ℕ) (r : Registers) (z : Drained) → has_halted (granting n s) now t r a z ≡ granting n (has_halted s now t r a z)
  halted_granted now t r (clear d) = refl
  halted_granted now t r (broke d due f) = refl

  act_granted : (o : Outcome) → act (granting n s) c m a o ≡ each_state (granting n) (act s c m a o)
  act_granted (goes t w) = refl
  act_granted (tests t u busy free) = ap ready (tested_granted t u.number busy free (c.states u.number))
  act_granted (waits t u r) = ap ready (paused_granted t u.number r (c.states u.number))
  act_granted (issues t u x v r) = issued_granted t u r (flight_if u x v c.registers.location (c.units u.number) (kind_of u.number))
  act_granted (halts t r) = ap ready (halted_granted (last_due units s.counts.clock c.states) t r (drain units (last_due units s.counts.clock c.states) c))
  act_granted (fails f) = refl

step_granted : (n : ℕ) (s : State) → step (granting n s) ≡ each_state (granting n) (step s)
unfolding step
step_granted n s = go s.phase
  where
    at : (z : Drained) → begun (granting n s) z ≡ each_state (granting n) (begun s z)
    at (clear c) = act_granted n s c (memory_after (instruction c.registers) (j_word s.j) c.memory) (touched s c (instruction c.registers)) (outcome_of (instruction c.registers) c.memory)
    at (broke c due f) = refl

    go : (p : Phase) → step_in p (granting n s) ≡ each_state (granting n) (step_in p s)
    go Running = at (drain units s.counts.clock s.core)
    go Halted = refl
    go (Faulted f) = refl

-- ---- memory that a step leaves alone ----
module _ (l : ℕ) where
  abbrev Still : Core → Core → Type 0
  Still c d = (d.memory l ≡ c.memory l) × ((u : ℕ) → fills l (d.states u) ≡ false)

  abbrev Kept : Core → Drained → Type 0
  Kept c (clear d) = Still c d
  Kept c (broke d due f) = Still c d

  kept_on : (c : Core) (by : ℕ) (k : Core → Drained) → ((d : Core) → Still c d → Kept c (k d)) → ((u : ℕ) → fills l (c.states u) ≡ false) → (b : Next) → Found units by c.states b → Kept c (on_due c k b)
  unfolding delivered
  kept_on c by k rest h nothing f = (refl, h)
  kept_on c by k rest h (flies u x due) f = go (perform (unit_at u) x.transfer (given x c.memory) (c.units u))
    where
      away : (takes x.transfer && covers x.area l) ≡ false
      away = let b : fills l (Busy x due) ≡ false = subst (λ z. fills l z ≡ false) f.1 (h u) in b

      go : (a : Answer) → Kept c (on_carry c due k (carried c u x a))
      go (Ok e) = rest _ (rw away refl, with_all (λ v z. fills l z ≡ false) c.states u (Done x) refl (λ v n. h v))
      go (Err g) = (refl, h)

  kept_through : (c d : Core) → d.memory l ≡ c.memory l → (z : Drained) → Kept d z → Kept c z
  kept_through c d e (clear b) h = (h.0 ∙ e, h.1)
  kept_through c d e (broke b due f) h = (h.0 ∙ e, h.1)

  drain_kept : (n by : ℕ) (c : Core) → ((u : ℕ) → fills l (c.states u) ≡ false) → Kept c (drain n by c)
  unfolding drain
  drain_kept zero by c h = (refl, h)
  drain_kept (suc n) by c h = kept_on c by (drain n by) (λ d g. kept_through c d g.0 (drain n by d) (drain_kept n by d g.1)) h (first_due units by c.states) (found units by c.states)

  -- a step that comes to a memory with that word
  abbrev Comes_to : Word → Step → Type 0
  Comes_to w (ready t) = t.core.memory l ≡ w
  Comes_to w (asks q h k) = (d : ℕ) → (k d).core.memory l ≡ w

  module _ (s : State) (c : Core) (m : Memory) (e : m l ≡ c.memory l) (h : (u : ℕ) → fills l (c.states u) ≡ false) where
    went_kept : (d : Core) (t : ℕ) (a : Option Mark) (w : Result Way Rejection) → (went_if s c d m t a w).core.memory l ≡ c.memory l
    went_kept d t a (Ok w) = e
    went_kept d t a (Err f) = refl

    act_kept : (a : Option Mark) (o : Outcome) → Comes_to (c.memory l) (act s c m a o)
    act_kept a (goes t w) = e
    act_kept a (tests t u busy free) = go (c.states u.number)
      where
        go : (z : UnitState) → (tested s c m t u.number busy free a z).core.memory l ≡ c.memory l
        go Idle = went_kept c t a free
        go (Busy x due) = went_kept c t _ busy
        go (Done x) = went_kept (acknowledged u.number c) t _ free
    act_kept a (waits t u r) = go (c.states u.number)
      where
        go : (z : UnitState) → (paused s c t u.number r a z).core.memory l ≡ c.memory l
        go Idle = refl
        go (Busy x due) = refl
        go (Done x) = refl
    act_kept a (issues t u x v r) = go (flight_if u x v c.registers.location (c.units u.number) (kind_of u.number))
      where
        at : (now : ℕ) (y : Flight) (z : Drained) → Kept c z → Comes_to (c.memory l) (issued s now t u r a y z)
        at now y (clear d) k = λ told. k.0
        at now y (broke d due f) k = k.0

        go : (f : Result Flight Fault) → Comes_to (c.memory l) (issued_if s c t u r a f)
        go (Ok y) = at (later s.counts.clock (c.states u.number)) y (drain units (later s.counts.clock (c.states u.number)) c) (drain_kept units (later s.counts.clock (c.states u.number)) c h)
        go (Err f) = refl
    act_kept a (halts t r) = go (last_due units s.counts.clock c.states) (drain units (last_due units s.counts.clock c.states) c) (drain_kept units (last_due units s.counts.clock c.states) c h)
      where
        go : (now : ℕ) (z : Drained) → Kept c z → (has_halted s now t r a z).core.memory l ≡ c.memory l
        go now (clear d) k = k.0
        go now (broke d due f) k = k.0
    act_kept a (fails f) = refl

  step_kept : (s : State) → LeftAlone s l → Comes_to (s.core.memory l) (step s)
  unfolding step
  step_kept s h = go s.phase
    where
      at : (z : Drained) → drain units s.counts.clock s.core ≡ z → Kept s.core z → Comes_to (s.core.memory l) (begun s z)
      at (clear c) i k = subst (λ w. Comes_to w (obeys s c (instruction c.registers))) k.0
          (act_kept s c (memory_after (instruction c.registers) (j_word s.j) c.memory) (instruction_laws.unwritten (instruction c.registers) (j_word s.j) c.memory l (h.written c i)) k.1
          (touched s c (instruction c.registers)) (outcome_of (instruction c.registers) c.memory))
      at (broke c due f) i k = k.0

      go : (p : Phase) → Comes_to (s.core.memory l) (step_in p s)
      go Running = at (drain units s.counts.clock s.core) refl (drain_kept units s.counts.clock s.core h.filled)
      go Halted = refl
      go (Faulted f) = refl

module _ {R : Type 0} (holds : R → Holdings) (tells : R → Request → ℕ) where
  leaves : (s t : State) (l : ℕ) → LeftAlone s l → Comes holds tells (step s) t → t.core.memory l ≡ s.core.memory l
  leaves s t l h w = go (step s) (step_kept l s h) w
    where
      go : (x : Step) → Comes_to l (s.core.memory l) x → Comes holds tells x t → t.core.memory l ≡ s.core.memory l
      go (ready u) k w = ap (λ (q : State). q.core.memory l) w ∙ k
      go (asks q u f) k w = ap (λ (q : State). q.core.memory l) w.2 ∙ k (tells w.0 q)

  -- ---- runs ----
  comes_granted : (n : ℕ) (x : Step) (t : State) → Comes holds tells x t → Comes holds tells (each_state (granting n) x) (granting n t)
  comes_granted n (ready s) t w = ap (granting n) w
  comes_granted n (asks q h k) t w = (w.0, w.1, ap (granting n) w.2)

  steps_granted : (n i : ℕ) (s t : State) → Steps holds tells i s t → Steps holds tells i (granting n s) (granting n t)
  steps_granted n zero s t w = ap (granting n) w
  steps_granted n (suc i) s t w =
      (granting n w.0, subst (λ x. Comes holds tells x (granting n w.0)) (sym (step_granted n s)) (comes_granted n (step s) w.0 w.1), steps_granted n i w.0 t w.2)

  steps_join : (i j : ℕ) (s t u : State) → Steps holds tells i s t → Steps holds tells j t u → Steps holds tells (i + j) s u
  steps_join zero j s t u w v = rw zero-add (subst (λ q. Steps holds tells j q u) w v)
  steps_join (suc i) j s t u w v = rw suc-add (w.0, w.1, steps_join i j w.0 t u w.2 v)

  ran : (b : ℕ) (s t : State) → refused b s ≡ None → Ran holds tells b s t → Steps holds tells b (granting b s) t
  ran b s t h w = subst (RanIf holds tells b s t) h w

  may_run : (b c : ℕ) (s : State) → refused b s ≡ None → b + c ≤ 1000000 → refused (b + c) s ≡ None
  may_run b c s h l =
      let a = accepted b s h in
      let some = a.some in
      let few : (eqb (b + c) 0 || ltb 1000000 (b + c)) ≡ false = grind (arith, nat_tests) in
      let runs : not (is_running s.phase) ≡ false = ap (λ p. not (is_running p)) a.running in
      let early : leb (10 ^ 15) s.counts.clock ≡ false = lt-leb (10 ^ 15) s.counts.clock a.clock in
      (λ i. cond (few i) (Some Budget) (cond (runs i) (Some NotRunning) (cond (early i) (Some ClockPast) None)))

  joins : (b c : ℕ) (s t u : State) → b + c ≤ 1000000 → refused b s ≡ None → refused c t ≡ None → Ran holds tells b s t → Ran holds tells c t u → Ran holds tells (b + c) s u
  joins b c s t u l h g w v =
      let first = steps_granted c b (granting b s) t (ran b s t h w) in
      let both = steps_join b c (granting c (granting b s)) (granting c t) u first (ran c t u g v) in
      let same = subst (λ n. Steps holds tells (b + c) (record s { counts = record s.counts { granted = n } }) u) (add_assoc s.counts.granted b c) both in
      subst (RanIf holds tells (b + c) s u) (sym (may_run b c s h l)) same

  stays : (b : ℕ) (s t : State) → (s.phase ≡ Running → ⊥) → Ran holds tells b s t → t ≡ s
  stays b s t n w = go (eqb b 0 || ltb 1000000 b) s.phase refl w
    where
      go : (x : Bool) (p : Phase) → s.phase ≡ p → RanIf holds tells b s t (cond x (Some Budget) (cond (not (is_running p)) (Some NotRunning) (cond (leb (10 ^ 15) s.counts.clock) (Some ClockPast) None))) → t ≡ s
      go true p i w = w
      go false Running i w = absurd (n i)
      go false Halted i w = w
      go false (Faulted f) i w = w

  pub run_laws : RunLaws holds tells
  run_laws = record { joins = joins; stays = stays; writes = writes_law; leaves = leaves }
