-- One step of a room's machine beside the untimed one.
use Rattle.std.proofs.Common.{◌≡◌, ℕ, suc, ◌+◌, ◌<◌, ◌≤◌, Bool, true, false, cond, not, ◌&&◌, ◌⊎◌, inl, inr, Option, Some, None, Ok, Err, Result, refl, sym, ap, subst, ◌∙◌, arith}
use Rattle.std.proofs.lemmas.Bool.{both_ways, cases_lt, false≢true}
use Rattle.cpu.specs.Instructions.{instruction}
use Rattle.cpu.specs.Programs.{Memory, Outcome, Program, Way, outcome_of, memory_after, reads_of, writes_of, takes_j}
use Rattle.cpu.specs.Programs.Outcome.{goes, tests, waits, issues, halts, fails}
use Rattle.cpu.specs.declared.fault.Fault.{Fault as Rejection}
use Rattle.cpu.specs.declared.registers.Registers.{Registers}
use Rattle.flights.specs.Flights.{Core, Drained, units, opened, opens, drain, later, last_due}
use Rattle.flights.specs.Flights.Drained.{clear, broke}
use Rattle.flights.specs.Flights.Next.{nothing}
use Rattle.machine.specs.Steps.{State, Step, moved, acknowledged, unsettled, j_after, j_word, worked, tested, paused, issued, issued_if, halted as has_halted, act, obeys, begun, step_in, step}
use Rattle.flights.specs.Issues.{flight_if}
use Rattle.std.specs.Option.{option_or}
use Rattle.flights.specs.Watch.{first_unit, touch_mark, meet_mark, j_mark}
use Rattle.machine.specs.declared.counts.Counts.{Counts}
use Rattle.flights.specs.declared.fault.Fault.{Fault}
use Rattle.flights.specs.declared.flight.Flight.{Flight}
use Rattle.flights.specs.declared.flight.UnitState.{UnitState}
use Rattle.flights.specs.declared.flight.UnitState.TheVariants.{Idle, Busy, Done}
use Rattle.machine.specs.declared.j.J.{J}
use Rattle.flights.specs.declared.mark.Mark.{Mark}
use Rattle.machine.specs.declared.phase.Phase.TheVariants.{Running}
use Rattle.rack.specs.Units.{kind_of}
use Rattle.rack.specs.declared.request.Transfer.{Transfer}
use Rattle.rack.specs.declared.unit.Unit.{Unit as Device}
use Rattle.word.specs.declared.word.Word.{Word}
use Rattle.rooms.proofs.Acts.{open_at, Free, calm_free, same, same_back, unit_after, acknowledge_rel, issue_rel}
use Rattle.rooms.proofs.Areas.{find_none}
use Rattle.rooms.proofs.Astray.{Marked, Bad, Doomed, mark_made, bad_went, bad_act, dead_asked, dead_halted, dead_begun}
use Rattle.rooms.proofs.Carry.{Fate, drain_rel}
use Rattle.rooms.proofs.Each.{Each}
use Rattle.flights.proofs.Dues.{Found, Held, drain_held, Left, drain_left, DueBy, later_due, all_due}
use Rattle.rooms.proofs.Eager.{Eager, Life, is_dead, counted, eager_went, eager_tested, eager_paused, eager_issued, eager_issued_if, eager_asked, eager_halted, eager_act, eager_obeys, eager_begun, eager_step_in, eager_step}
use Rattle.rooms.proofs.Eager.Course.{running}
use Rattle.rooms.proofs.Eager.Life.{holding, dead}
use Rattle.rooms.proofs.Flying.{flight_unit, flight_alike}
use Rattle.rooms.proofs.Frame.{Untouched, untouched}
use Rattle.rooms.proofs.Relation.{Rel, Rels, Low, Calm, Level, Ahead, Linked, Alike, alike_running}
use Rattle.rooms.proofs.Settled.{level_only, level_after, one_take}
use Rattle.flights.proofs.Stores.{with_at}

-- a step: both go astray, or the room's machine waits, or both work
pub data Sim (e f : Eager) (s : State) : Type 0 where
  astray : Bad s → Doomed f → Sim e f s
  waiting : Rels s e → Sim e f s
  working : Rels s f → Sim e f s

each_astray : (e f : Eager) (x : Step) → Each Bad x → Doomed f → Each (Sim e f) x
each_astray e f (Step.ready s) h d = astray h d
each_astray e f (Step.asks q u k) h d = λ t. astray (h t) d

-- after a wait for it a unit is calm
calmed : (c : Core) (t u : ℕ) → u < units → Found units t c.states nothing → (z : UnitState) → c.states u ≡ z → DueBy t z → Calm z
calmed c t u l f Idle i d = tt
calmed c t u l f (Busy x due) i d = let g = f u l x due i in absurd (omega arith)
calmed c t u l f (Done x) i d = tt

all_calm : (c : Core) (t : ℕ) → ((u : ℕ) → Low u (c.states u)) → Found units t c.states nothing → ((u : ℕ) → u < units → DueBy t (c.states u)) → (u : ℕ) → Calm (c.states u)
all_calm c t low f d u = go (cases_lt u units)
  where
    high : (z : UnitState) → units ≤ u → Low u z → Calm z
    high Idle g l = tt
    high (Busy x due) g l = absurd (omega arith)
    high (Done x) g l = tt

    go : (u < units) ⊎ (units ≤ u) → Calm (c.states u)
    go (inl l) = calmed c t u l f (c.states u) refl (d u l)
    go (inr g) = high (c.states u) g (low u)

-- where both machines stand once what was due is carried out
pub record Pre (s : State) (c : Core) (e : Eager) : Type 0 where
  pub rel : Rel c e
  pub j : Linked s.j e.j e.opens (outcome_of (instruction e.registers) e.memory)
  pub mark : s.mark ≡ None
  pub phase : s.phase ≡ Running
  pub course : e.course ≡ running
  pub time : s.counts.working_time ≡ e.time
  pub steps : s.counts.working_steps ≡ e.steps

module _ (s : State) (c : Core) (e : Eager) (h : Pre s c e) where
  alike : Alike s.phase running
  alike = subst (λ p. Alike p running) (sym h.phase) tt

  -- J, at what comes next
  linked_at : (z : Outcome) → outcome_of (instruction e.registers) e.memory ≡ z → Linked s.j e.j e.opens z
  linked_at z i = subst (Linked s.j e.j e.opens) i h.j

  module _ (a : Option Mark) (unmarked : a ≡ None) where
    -- both machines make a step and go on
    going_on : (d : Core) (j : J) (n : Counts) (f : Eager) (t : ℕ) → Rel d (counted t f) → Level j f.j → n.working_time ≡ f.time + t → n.working_steps ≡ suc f.steps
        → Sim e (counted t f) (record s { core = d; j = j; counts = n; mark = a })
    going_on d j n f t r l p q = working (record {
      core = r;
      j = inl l;
      mark = unmarked;
      phase = alike;
      time = p;
      steps = q;
      calm = λ i. absurd (cc (sym h.phase ∙ i));
      level = λ i. l;
    })

    sim_goes : (tm em : Memory) (t : ℕ) (w : Way) → Rel (moved c w.registers tm) (eager_went e em t w) → Level s.j e.j
        → Sim e (eager_went e em t w) (record s { core = moved c w.registers tm; j = j_after s.j w.jump; counts = worked t s.counts; mark = a })
    sim_goes tm em t w r l = going_on (moved c w.registers tm) (j_after s.j w.jump) (worked t s.counts) (record e { registers = w.registers; j = j_after e.j w.jump; memory = em }) t
        r (level_after s.j e.j w.jump l) (ap (λ n. n + t) h.time) (ap suc h.steps)

    sim_tests : (tm em : Memory) (t : ℕ) (u : ℕ) (busy free : Result Way Rejection) → ((w : Way) → Rel (moved c w.registers tm) (eager_went e em t w)) → Level s.j e.j
        → (z : UnitState) → opened z ≡ e.opens u → Sim e (eager_tested e em t free (e.opens u)) (tested s c tm t u busy free a z)
    sim_tests tm em t u busy free r l z o = subst (λ o. Sim e (eager_tested e em t free o) (tested s c tm t u busy free a z)) o (go free z)
      where
        go : (free : Result Way Rejection) (z : UnitState) → Sim e (eager_tested e em t free (opened z)) (tested s c tm t u busy free a z)
        go free (Busy x due) = astray (bad_went s c c tm t _ busy (mark_made a _)) (inr refl)
        go free (Done x) = astray (bad_went s c (acknowledged u c) tm t _ free (mark_made a _)) (inr refl)
        go (Ok w) Idle = sim_goes tm em t w (r w) l
        go (Err f) Idle = astray (inl tt) (inr refl)

    sim_waits : (t : ℕ) (u : Device) (g : Registers) → outcome_of (instruction e.registers) e.memory ≡ waits t u g → (z : UnitState) → c.states u.number ≡ z → opened z ≡ e.opens u.number
        → Sim e (eager_paused e t u.number g (e.opens u.number) (e.units u.number)) (paused s c t u.number g a z)
    sim_waits t u g is Idle i o =
        subst (λ o. Sim e (eager_paused e t u.number g o (e.units u.number)) (paused s c t u.number g a Idle)) o
        (going_on (moved c g c.memory) s.j (worked t s.counts) (record e { registers = g }) t
        (record { registers = refl; memory = h.rel.memory; unit = h.rel.unit; opened = h.rel.opened; low = h.rel.low; apart = h.rel.apart })
        (go (linked_at _ is)) (ap (λ n. n + t) h.time) (ap suc h.steps))
      where
        go : Linked s.j e.j e.opens (waits t u g) → Level s.j e.j
        go (inl l) = l
        go (inr l) = absurd (cc (o ∙ l.1.1))
    sim_waits t u g is (Busy x due) i o = waiting (record {
      core = h.rel;
      j = inr (refl, subst (Ahead e.opens) (sym is) (x, sym o));
      mark = unmarked;
      phase = subst (Alike s.phase) (sym h.course) alike;
      time = h.time;
      steps = h.steps;
      calm = λ i. absurd (cc (sym h.phase ∙ i));
      level = λ i. absurd (cc (sym h.phase ∙ i));
    })
    sim_waits t u g is (Done x) i o =
        let f = calm_free c e h.rel u.number (subst Calm (sym i) tt) in
        subst (λ o. Sim e (eager_paused e t u.number g o (e.units u.number)) (paused s c t u.number g a (Done x))) o
        (subst (λ l. Sim e (eager_paused e t u.number g (Some x) l) (paused s c t u.number g a (Done x))) (sym f.unit)
        (going_on (acknowledged u.number (moved c g c.memory)) (unsettled s.j.location) (worked t s.counts)
        (record e { registers = g; j = unsettled e.j.location; opens = with_at e.opens u.number None }) t
        (acknowledge_rel c e h.rel u.number f t g (unsettled e.j.location))
        (record { settled = refl; location = λ k. absurd (both_ways false refl k) }) (ap (λ n. n + t) h.time) (ap suc h.steps)))

    -- a transfer, after the wait for the unit's last one
    sim_issued : (now t : ℕ) (u : Device) (x : Transfer) (v : Word) (g : Registers) (y : Flight) → flight_if u x v c.registers.location (c.units u.number) (kind_of u.number) ≡ Ok y → Level s.j e.j
        → (z : Drained) → Fate e z → Left now z → Held (λ w k. w ≡ u.number → DueBy now k) (λ w k i. tt) z
        → Each (Sim e (eager_asked e t u x v g (e.units u.number))) (issued s now t u g a y z)
    sim_issued now t u x v g y is l (broke d due f) fate left held = astray (inl tt) (dead_asked e fate t u x v g (e.units u.number) refl)
    sim_issued now t u x v g y is l (clear d) fate left held =
        let low = flight_unit u x v c.registers.location (c.units u.number) y is in
        let free = calm_free d e fate u.number (calmed d now u.number low left (d.states u.number) refl (held u.number refl)) in
        let found : flight_if u x v e.registers.location (d.units u.number) (kind_of u.number) ≡ Ok y =
        ap (λ (g : Registers). flight_if u x v g.location (d.units u.number) (kind_of u.number)) (sym h.rel.registers)
        ∙ sym (flight_alike u x v c.registers.location (kind_of u.number) (c.states u.number) (c.units u.number) (d.units u.number) (e.units u.number) c.memory e.memory (h.rel.unit u.number) free.unit) ∙ is in
        subst (λ l. Each (Sim e (eager_asked e t u x v g l)) (issued s now t u g a y (clear d))) (sym free.unit)
        (subst (λ k. Each (Sim e (eager_issued_if e t u.number g (d.units u.number) k)) (issued s now t u g a y (clear d))) (sym found)
        (go low free (meet_mark e.opens u.number y y.location) refl))
      where
        met : (k : Option Mark) → meet_mark e.opens u.number y y.location ≡ k → option_or a (meet_mark (opens d) u.number y y.location) ≡ option_or a k
        met k i = ap (λ o. option_or a (meet_mark o u.number y y.location)) fate.opened ∙ ap (option_or a) i

        go : u.number < units → Free d e u.number → (k : Option Mark) → meet_mark e.opens u.number y y.location ≡ k → Each (Sim e (eager_issued e t u.number g (d.units u.number) y k)) (issued s now t u g a y (clear d))
        go low free (Some k) i = λ told. astray (inr (subst Marked (sym (met (Some k) i)) (mark_made a k))) (inr refl)
        go low free None i = λ told. working (record {
          core = issue_rel d e fate u.number free y _ low i t g;
          j = inl l;
          mark = met None i ∙ ap (λ a. option_or a None) unmarked;
          phase = alike;
          time = ap (λ n. n + t) h.time;
          steps = ap suc h.steps;
          calm = λ i. absurd (cc (sym h.phase ∙ i));
          level = λ i. l;
        })

    sim_issues : (t : ℕ) (u : Device) (x : Transfer) (v : Word) (g : Registers) → Level s.j e.j → (y : Result Flight Fault) → flight_if u x v c.registers.location (c.units u.number) (kind_of u.number) ≡ y
        → Each (Sim e (eager_asked e t u x v g (e.units u.number))) (issued_if s c t u g a y)
    sim_issues t u x v g l (Ok y) is =
        let now = later s.counts.clock (c.states u.number) in
        sim_issued now t u x v g y is l (drain units now c) (drain_rel units now c e h.rel) (drain_left now c)
        (drain_held (λ w k. w ≡ u.number → DueBy now k) (λ w k i. tt) units now c (λ w i. subst (λ w. DueBy now (c.states w)) (sym i) (later_due s.counts.clock (c.states u.number))))
    sim_issues t u x v g l (Err f) is = astray (inl tt) (go (e.units u.number) refl)
      where
        go : (b : Life) → e.units u.number ≡ b → Doomed (eager_asked e t u x v g b)
        go dead i = inr refl
        go (holding k) i =
            let found : flight_if u x v e.registers.location k (kind_of u.number) ≡ Err f =
            ap (λ (g : Registers). flight_if u x v g.location k (kind_of u.number)) (sym h.rel.registers)
            ∙ sym (flight_alike u x v c.registers.location (kind_of u.number) (c.states u.number) (c.units u.number) k (e.units u.number) c.memory e.memory (h.rel.unit u.number) i) ∙ is in
            subst (λ w. Doomed (eager_issued_if e t u.number g k w)) (sym found) (inr refl)

    -- HLT, after the wait for the last transfer
    sim_halted : (now t : ℕ) (g : Registers) → Level s.j e.j → (z : Drained) → Fate e z → Left now z → Held (λ w k. w < units → DueBy now k) (λ w k i. tt) z
        → Sim e (eager_halted e t g (first_unit units (λ u. is_dead (e.units u)))) (has_halted s now t g a z)
    sim_halted now t g l (broke d due f) fate left held = astray (inl tt) (dead_halted e fate t g)
    sim_halted now t g l (clear d) fate left held =
        let calm = all_calm d now fate.low left held in
        let free : (u : ℕ) → Free d e u = λ u. calm_free d e fate u (calm u) in
        subst (λ o. Sim e (eager_halted e t g o) (has_halted s now t g a (clear d))) (sym (find_none units (λ u. is_dead (e.units u)) (λ u. ap is_dead (free u).unit)))
        (working (record {
          core = record {
            registers = refl;
            memory = λ i q. fate.memory i (λ u. (free u).quiet i);
            unit = λ u. (free u).unit;
            opened = refl;
            low = λ u. tt;
            apart = λ u v i p q. both_ways false refl p;
          };
          j = inl l;
          mark = unmarked;
          phase = tt;
          time = ap (λ n. n + t) h.time;
          steps = ap suc h.steps;
          calm = λ i u. tt;
          level = λ i. l;
        }))

    sim_act : (tm em : Memory) → ((t : ℕ) (w : Way) → Rel (moved c w.registers tm) (eager_went e em t w))
        → (z : Outcome) → outcome_of (instruction e.registers) e.memory ≡ z → Each (Sim e (eager_act e em z)) (act s c tm a z)
    sim_act tm em r (goes t w) is = sim_goes tm em t w (r t w) (level_only (linked_at _ is))
    sim_act tm em r (tests t u busy free) is = sim_tests tm em t u.number busy free (r t) (level_only (linked_at _ is)) (c.states u.number) (open_at c e h.rel u.number)
    sim_act tm em r (waits t u g) is = sim_waits t u g is (c.states u.number) refl (open_at c e h.rel u.number)
    sim_act tm em r (issues t u x v g) is = sim_issues t u x v g (level_only (linked_at _ is)) (flight_if u x v c.registers.location (c.units u.number) (kind_of u.number)) refl
    sim_act tm em r (halts t g) is =
        let now = last_due units s.counts.clock c.states in
        sim_halted now t g (level_only (linked_at _ is)) (drain units now c) (drain_rel units now c e h.rel) (drain_left now c)
        (drain_held (λ w k. w < units → DueBy now k) (λ w k i. tt) units now c (λ w i. all_due units s.counts.clock c.states w i))
    sim_act tm em r (fails f) is = astray (inl tt) (inr refl)

  -- the mark of what is touched, where the same is touched
  touched_alike : (p : Program) → reads_of p c.memory ≡ reads_of p e.memory → writes_of p c.memory ≡ writes_of p e.memory
      → touch_mark (opens c) (reads_of p c.memory) (writes_of p c.memory) c.registers.location ≡ touch_mark e.opens (reads_of p e.memory) (writes_of p e.memory) e.registers.location
  touched_alike p rs ws =
      ap (λ o. touch_mark o (reads_of p c.memory) (writes_of p c.memory) c.registers.location) h.rel.opened
      ∙ ap (λ ls. touch_mark e.opens ls (writes_of p c.memory) c.registers.location) rs
      ∙ ap (λ ls. touch_mark e.opens (reads_of p e.memory) ls c.registers.location) ws
      ∙ ap (λ (g : Registers). touch_mark e.opens (reads_of p e.memory) (writes_of p e.memory) g.location) h.rel.registers

  -- an instruction with its marks
  sim_program : (p : Program) → p ≡ instruction e.registers → Each (Sim e (eager_begun e p)) (obeys s c p)
  sim_program p ip =
      go (touch_mark (opens c) (reads_of p c.memory) (writes_of p c.memory) c.registers.location) refl
      (touch_mark e.opens (reads_of p e.memory) (writes_of p e.memory) e.registers.location) refl
      (not s.j.settled && takes_j p c.memory) refl
      (not e.j.settled && takes_j p e.memory) refl
    where
      tj : Word
      tj = j_word s.j

      ej : Word
      ej = j_word e.j

      clear_there : touch_mark (opens c) (reads_of p c.memory) (writes_of p c.memory) c.registers.location ≡ None → Untouched e.opens (reads_of p c.memory) (writes_of p c.memory)
      clear_there i = untouched e.opens (reads_of p c.memory) (writes_of p c.memory) c.registers.location
          (ap (λ o. touch_mark o (reads_of p c.memory) (writes_of p c.memory) c.registers.location) (sym h.rel.opened) ∙ i)

      clear_here : touch_mark e.opens (reads_of p e.memory) (writes_of p e.memory) e.registers.location ≡ None → Untouched e.opens (reads_of p e.memory) (writes_of p e.memory)
      clear_here = untouched e.opens (reads_of p e.memory) (writes_of p e.memory) e.registers.location

      taken : takes_j p c.memory ≡ takes_j p e.memory
          → ((not s.j.settled && takes_j p c.memory) ≡ (not e.j.settled && takes_j p e.memory))
          × ((not s.j.settled && takes_j p c.memory) ≡ false → takes_j p c.memory ≡ true → j_word s.j ≡ j_word e.j)
      taken i = one_take e.opens s.j e.j p c.memory e.memory i (linked_at (outcome_of p e.memory) (ap (λ q. outcome_of q e.memory) (sym ip)))

      go : (k : Option Mark) → touch_mark (opens c) (reads_of p c.memory) (writes_of p c.memory) c.registers.location ≡ k
          → (l : Option Mark) → touch_mark e.opens (reads_of p e.memory) (writes_of p e.memory) e.registers.location ≡ l
          → (b : Bool) → (not s.j.settled && takes_j p c.memory) ≡ b
          → (d : Bool) → (not e.j.settled && takes_j p e.memory) ≡ d
          → Each (Sim e (eager_obeys e p l d)) (act s c (memory_after p (j_word s.j) c.memory) (option_or s.mark (option_or k (cond b (Some (j_mark c.registers.location)) None))) (outcome_of p c.memory))
      go (Some k) i (Some l) j b m d n = each_astray e (eager_obeys e p (Some l) d) _ (bad_act s c (memory_after p (j_word s.j) c.memory) _ (outcome_of p c.memory) (mark_made s.mark k)) (inr refl)
      go (Some k) i None j b m d n =
          let f = same_back c e h.rel tj ej p (clear_here j) in
          absurd (cc (sym i ∙ touched_alike p (sym f.reads) (sym f.writes) ∙ j))
      go None i (Some l) j b m d n =
          let f = same c e h.rel tj ej p (clear_there i) in
          absurd (cc (sym i ∙ touched_alike p f.reads f.writes ∙ j))
      go None i None j true m true n = each_astray e (eager_obeys e p None true) _ (bad_act s c (memory_after p (j_word s.j) c.memory) _ (outcome_of p c.memory) (mark_made s.mark _)) (inr refl)
      go None i None j true m false n = absurd (false≢true (sym n ∙ sym (taken (same c e h.rel tj ej p (clear_there i)).takes).0 ∙ m))
      go None i None j false m true n = absurd (false≢true (sym m ∙ (taken (same c e h.rel tj ej p (clear_there i)).takes).0 ∙ n))
      go None i None j false m false n =
          let f = same c e h.rel (j_word s.j) (j_word e.j) p (clear_there i) in
          subst (λ z. Each (Sim e (eager_act e (memory_after p (j_word e.j) e.memory) z)) (act s c (memory_after p (j_word s.j) c.memory) (option_or s.mark None) (outcome_of p c.memory))) f.outcome
          (sim_act (option_or s.mark None) (ap (λ a. option_or a None) h.mark) (memory_after p (j_word s.j) c.memory) (memory_after p (j_word e.j) e.memory)
          (λ t w. record {
            registers = refl;
            memory = f.memory ((taken f.takes).1 m);
            unit = unit_after c e h.rel (j_word s.j) (j_word e.j) p (clear_there i) (clear_here j);
            opened = h.rel.opened;
            low = h.rel.low;
            apart = h.rel.apart;
          })
          (outcome_of p c.memory) (ap (λ q. outcome_of q e.memory) (sym ip) ∙ sym f.outcome))

-- ---- one step ----
sim_begun : (s : State) (e : Eager) → Rels s e → s.phase ≡ Running → e.course ≡ running → (z : Drained) → Fate e z → Each (Sim e (eager_begun e (instruction e.registers))) (begun s z)
sim_begun s e r i k (broke c due f) fate = astray (inl tt) (dead_begun e fate (instruction e.registers))
sim_begun s e r i k (clear c) fate =
    subst (λ g. Each (Sim e (eager_begun e (instruction g))) (begun s (clear c))) fate.registers
    (sim_program s c e (record { rel = fate; j = r.j; mark = r.mark; phase = i; course = k; time = r.time; steps = r.steps }) (instruction c.registers) (ap instruction fate.registers))

pub sim_step : (s : State) (e : Eager) → Rels s e → s.phase ≡ Running → Each (Sim e (eager_step e)) (step s)
unfolding step eager_step
sim_step s e r i =
    let k = alike_running s.phase e.course r.phase i in
    subst (λ p. Each (Sim e (eager_step_in e.course e)) (step_in p s)) (sym i)
    (subst (λ q. Each (Sim e (eager_step_in q e)) (step_in Running s)) (sym k)
    (sim_begun s e r i k (drain units s.counts.clock s.core) (drain_rel units s.counts.clock s.core e r.core)))
