-- A room after any calls: its machine beside the untimed one, its counts, and the steps that were granted.
use Rattle.std.proofs.Common.{◌≡◌, ℕ, zero, suc, ◌+◌, false, ◌⊎◌, inl, inr, List, [], ◌∷◌, Option, Some, None, refl, sym, ap, subst, ◌∙◌, arith}
use mathlib.Core.Path.{fun_ext}
use Rattle.std.proofs.lemmas.Bool.{both_ways}
use Rattle.flights.specs.Flights.{opened}
use Rattle.machine.specs.Runs.{Steps, granting, refused, RanIf, Made, Session}
use Rattle.machine.specs.Steps.{State, step_in, step}
use Rattle.machine.specs.declared.call.Call.{Call}
use Rattle.machine.specs.declared.call.Call.TheVariants.{Run, Peek, Status, Close}
use Rattle.flights.specs.declared.flight.UnitState.{UnitState}
use Rattle.flights.specs.declared.flight.UnitState.TheVariants.{Idle, Busy, Done}
use Rattle.machine.specs.declared.phase.Phase.{Phase}
use Rattle.machine.specs.declared.phase.Phase.TheVariants.{Running, Halted, Faulted}
use Rattle.machine.specs.declared.phase.RunRefusal.{RunRefusal}
use Rattle.rack.specs.Units.{Holdings}
use Rattle.rack.specs.declared.request.Request.{Request}
use Rattle.rooms.specs.Rooms.{Fresh}
use Rattle.rooms.proofs.Astray.{Bad, Doomed, bad_step}
use Rattle.rooms.proofs.Counts.{Bound, Inv, inv_step}
use Rattle.rooms.proofs.Granted.{OneMoreIf, made_step}
use Rattle.rooms.proofs.Each.{Each, each_map, each_two, each_comes}
use Rattle.rooms.proofs.Eager.{Eager, eager_step}
use Rattle.rooms.proofs.Eager.Course.{running}
use Rattle.rooms.proofs.Eager.Life.{holding}
use Rattle.rooms.proofs.Relation.{UnitRel, Low, Alike, Rels}
use Rattle.rooms.proofs.Runs.{eager_run}
use Rattle.rooms.proofs.Sim.{Sim, sim_step}
use Rattle.rooms.proofs.Sim.Sim.{astray, waiting, working}

-- a room's machine stands where the untimed one comes, or both go astray
abbrev pub Track : Eager → State → Type 0
Track e s = ((n : ℕ) × Rels s (eager_run n e)) ⊎ (Bad s × ((n : ℕ) × Doomed (eager_run n e)))

-- a room of which n steps that were granted are still to be made
pub record Room (n : ℕ) (e : Eager) (s : State) : Type 0 where
  pub track : Track e s
  pub inv : Inv s
  pub made : s.phase ≡ Running → s.counts.working_steps + s.counts.waiting_steps + n ≡ s.counts.granted

track_sim : (e : Eager) (n : ℕ) (s : State) → Sim (eager_run n e) (eager_step (eager_run n e)) s → Track e s
unfolding eager_run
track_sim e n s (astray b d) = inr (b, (suc n, d))
track_sim e n s (waiting r) = inl (n, r)
track_sim e n s (working r) = inl (suc n, r)

step_at : (s : State) (p : Phase) → s.phase ≡ p → step s ≡ step_in p s
unfolding step
step_at s p i = ap (λ p. step_in p s) i

module _ (n : ℕ) (e : Eager) (s : State) (h : Room (suc n) e s) where
  track_step : s.phase ≡ Running → Each (Track e) (step s)
  track_step i = go h.track
    where
      go : Track e s → Each (Track e) (step s)
      go (inl q) = each_map (Sim (eager_run q.0 e) (eager_step (eager_run q.0 e))) (Track e) (track_sim e q.0) (step s) (sim_step s (eager_run q.0 e) q.1 i)
      go (inr q) = each_map Bad (Track e) (λ t b. inr (b, q.1)) (step s) (bad_step s q.0)

  -- a machine that has stopped stays as it is
  room_still : (s.phase ≡ Running → ⊥) → Room n e s
  room_still i = record { track = h.track; inv = h.inv; made = λ r. absurd (i r) }

  room_next : s.phase ≡ Running → (t : State) → Track e t × (Inv t × OneMoreIf s.counts t) → Room n e t
  room_next i t g = record {
    track = g.0;
    inv = g.1.0;
    made = λ r.
        let a = h.made i in
        let m = g.1.1 r in
        let b = m.steps in
        let c = m.granted in
        omega arith;
  }

  room_step : Each (Room n e) (step s)
  room_step = go s.phase refl
    where
      go : (p : Phase) → s.phase ≡ p → Each (Room n e) (step s)
      go Running i = each_map (λ t. Track e t × (Inv t × OneMoreIf s.counts t)) (Room n e) (room_next i) (step s)
          (each_two (Track e) (λ t. Inv t × OneMoreIf s.counts t) (step s) (track_step i) (each_two Inv (OneMoreIf s.counts) (step s) (inv_step s h.inv) (made_step s i)))
      go Halted i = subst (Each (Room n e)) (sym (step_at s Halted i)) (room_still (λ r. cc (sym i ∙ r)))
      go (Faulted f) i = subst (Each (Room n e)) (sym (step_at s (Faulted f) i)) (room_still (λ r. cc (sym i ∙ r)))

room_granted : (b : ℕ) (e : Eager) (s : State) → Room 0 e s → Room b e (granting b s)
room_granted b e s h = record {
  track = track h.track;
  inv = record { counts = record { clock = h.inv.counts.clock; waiting = h.inv.counts.waiting; steps = h.inv.counts.steps }; dues = λ u. bound u (s.core.states u) (h.inv.dues u) };
  made = λ i. let a = h.made i in omega arith;
}
  where
    track : Track e s → Track e (granting b s)
    track (inl q) =
        let r = q.1 in
        inl (q.0, record { core = r.core; j = r.j; mark = r.mark; phase = r.phase; time = r.time; steps = r.steps; calm = r.calm; level = r.level })
    track (inr q) = inr q

    bound : (u : ℕ) (z : UnitState) → Bound s.counts u z → Bound (granting b s).counts u z
    bound u Idle h = tt
    bound u (Busy x due) h = h
    bound u (Done x) h = tt

module _ {R : Type 0} (holds : R → Holdings) (tells : R → Request → ℕ) where
  room_steps : (n : ℕ) (e : Eager) (s t : State) → Room n e s → Steps holds tells n s t → Room 0 e t
  room_steps zero e s t h w = subst (Room 0 e) (sym w) h
  room_steps (suc n) e s t h w = room_steps n e w.0 t (each_comes holds tells (Room n e) (step s) w.0 (room_step n e s h) w.1) w.2

  room_call : (c : Call) (e : Eager) (s t : State) → Made holds tells c s t → Room 0 e s → Room 0 e t
  room_call (Run b) e s t m h = go (refused b s) m
    where
      go : (r : Option RunRefusal) → RanIf holds tells b s t r → Room 0 e t
      go None m = room_steps b e (granting b s) t (room_granted b e s h) m
      go (Some r) m = subst (Room 0 e) (sym m) h
  room_call (Peek l) e s t m h = subst (Room 0 e) (sym m) h
  room_call Status e s t m h = subst (Room 0 e) (sym m) h
  room_call Close e s t m h = subst (Room 0 e) (sym m) h

  pub room : (cs : List Call) (e : Eager) (s t : State) → Session holds tells cs s t → Room 0 e s → Room 0 e t
  room [] e s t m h = subst (Room 0 e) (sym m) h
  room (c ∷ cs) e s t m h = room cs e m.0 t m.2 (room_call c e s m.0 m.1 h)

-- the untimed machine begins as the rooms do
pub eager_of : State → Eager
eager_of s = record {
  registers = s.core.registers;
  j = s.j;
  memory = s.core.memory;
  units = λ u. holding (s.core.units u);
  opens = λ u. None;
  course = running;
  time = s.counts.working_time;
  steps = s.counts.working_steps;
}

pub room_fresh : (s : State) → Fresh s → Room 0 (eager_of s) s
unfolding eager_of eager_run
room_fresh s f = record {
  track = inl (
    0,
    record {
      core = record {
        registers = refl;
        memory = λ l q. refl;
        unit = λ u. subst (λ z. UnitRel u z (s.core.units u) (holding (s.core.units u)) s.core.memory s.core.memory) (sym (f.idle u)) refl;
        opened = fun_ext (λ u. ap opened (f.idle u));
        low = λ u. subst (Low u) (sym (f.idle u)) tt;
        apart = λ u v l p q. both_ways false refl p;
      };
      j = inl (record { settled = refl; location = λ i. refl });
      mark = f.mark;
      phase = subst (λ p. Alike p running) (sym f.phase) tt;
      time = refl;
      steps = refl;
      calm = λ i. absurd (cc (sym i ∙ f.phase));
      level = λ i. record { settled = refl; location = λ i. refl };
    },
  );
  inv = record {
    counts = record { clock = omega (arith, f.clock, f.working_time, f.waiting); waiting = omega (arith, f.waiting, f.told); steps = omega (arith, f.waiting_steps, f.waiting) };
    dues = λ u. subst (Bound s.counts u) (sym (f.idle u)) tt;
  };
  made = λ i. omega (arith, f.working_steps, f.waiting_steps, f.granted);
}
