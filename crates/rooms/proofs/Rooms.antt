-- The two rooms.
use Rattle.std.proofs.Common.{◌≡◌, ℕ, ◌+◌, ◌<◌, ◌≤◌, max, ◌⊎◌, inl, inr, Option, None, refl, sym, ap, subst, ◌∙◌, arith}
use Rattle.std.proofs.lemmas.Bool.{cases_lt}
use Rattle.machine.specs.Steps.{State}
use Rattle.machine.specs.declared.phase.Phase.{Phase}
use Rattle.machine.specs.declared.phase.Phase.TheVariants.{Running, Halted, Faulted}
use Rattle.rack.specs.Units.{Holding, Holdings}
use Rattle.rack.specs.declared.request.Request.{Request}
use Rattle.rooms.specs.Rooms.{Follows, Agree, TwoRooms}
use Rattle.rooms.proofs.Acts.{Free, calm_free}
use Rattle.rooms.proofs.Astray.{Failed, Marked, Doomed}
use Rattle.rooms.proofs.Eager.{Eager, Life}
use Rattle.rooms.proofs.Eager.Course.{running, halted}
use Rattle.rooms.proofs.Eager.Life.{holding}
use Rattle.rooms.proofs.Relation.{Level, Rels, alike_halted, alike_running, alike_faulted}
use Rattle.rooms.proofs.Room.{Track, Room, room, eager_of, room_fresh}
use Rattle.rooms.proofs.Runs.{eager_run, stays, safe, grows}

module _ (e : Eager) (s t : State) (h : Room 0 e s) (k : Room 0 e t) (halts : s.phase ≡ Halted) (clean : s.mark ≡ None) where
  -- First's machine stands where the untimed one halts
  first : (n : ℕ) × Rels s (eager_run n e)
  first = go h.track
    where
      go : Track e s → (n : ℕ) × Rels s (eager_run n e)
      go (inl q) = q
      go (inr (inl b, d)) = absurd (subst Failed halts b)
      go (inr (inr b, d)) = absurd (subst Marked clean b)

  ends : (eager_run first.0 e).course ≡ halted
  ends = alike_halted s.phase (eager_run first.0 e).course first.1.phase halts

  no_doom : (m : ℕ) → Doomed (eager_run m e) → ⊥
  no_doom m d = safe e first.0 m ends d

  second : (n : ℕ) × Rels t (eager_run n e)
  second = go k.track
    where
      go : Track e t → (n : ℕ) × Rels t (eager_run n e)
      go (inl q) = q
      go (inr q) = absurd (no_doom q.1.0 q.1.1)

  -- a machine that has not halted has fewer working steps
  fewer : t.phase ≡ Running → t.counts.working_steps < s.counts.working_steps
  fewer i = go (cases_lt second.0 first.0)
    where
      runs : (eager_run second.0 e).course ≡ running
      runs = alike_running t.phase (eager_run second.0 e).course second.1.phase i

      go : (second.0 < first.0) ⊎ (first.0 ≤ second.0) → t.counts.working_steps < s.counts.working_steps
      go (inl l) =
          let a = grows e second.0 first.0 l runs (λ j. cc (sym j ∙ ends)) in
          let b = first.1.steps in
          let c = second.1.steps in
          omega arith
      go (inr l) = absurd (cc (sym ends ∙ ap (λ (q : Eager). q.course) (sym (stays e first.0 second.0 ends l)) ∙ runs))

  follows : Follows s t
  follows = record {
    no_fault = λ f i. alike_faulted t.phase (eager_run second.0 e).course second.1.phase f i;
    no_mark = second.1.mark;
    halts = λ l. go l t.phase refl;
  }
    where
      go : s.counts.working_steps + t.counts.told ≤ t.counts.granted → (p : Phase) → t.phase ≡ p → t.phase ≡ Halted
      go l Halted i = i
      go l (Faulted f) i = absurd (alike_faulted t.phase (eager_run second.0 e).course second.1.phase f i)
      go l Running i =
          let a = fewer i in
          let b = k.made i in
          let c = k.inv.counts.steps in
          let d = k.inv.counts.waiting in
          absurd (omega arith)

  -- both halted: where the untimed machine halts
  one_end : t.phase ≡ Halted → eager_run second.0 e ≡ eager_run first.0 e
  one_end i =
      sym (stays e second.0 (max first.0 second.0) (alike_halted t.phase (eager_run second.0 e).course second.1.phase i) (omega arith))
      ∙ stays e first.0 (max first.0 second.0) ends (omega arith)

-- a halted machine has nothing under way
record Ended (s : State) (e : Eager) : Type 0 where
  registers : s.core.registers ≡ e.registers
  j : Level s.j e.j
  memory : (l : ℕ) → s.core.memory l ≡ e.memory l
  units : (u : ℕ) → e.units u ≡ holding (s.core.units u)

ended : (s : State) (e : Eager) → Rels s e → s.phase ≡ Halted → Ended s e
ended s e r h =
    let f : (u : ℕ) → Free s.core e u = λ u. calm_free s.core e r.core u (r.calm h u) in
    record { registers = r.core.registers; j = r.level h; memory = λ l. r.core.memory l (λ u. (f u).quiet l); units = λ u. (f u).unit }

holds_same : (l : Life) (g h : Option Holding) → l ≡ holding g → l ≡ holding h → g ≡ h
holds_same l g h p q = cc

agreed : (e : Eager) (s t : State) → Room 0 e s → Room 0 e t → s.phase ≡ Halted → s.mark ≡ None → t.phase ≡ Halted → Agree s t
agreed e s t h k hs clean ht =
    let p = first e s t h k hs clean in
    let q = second e s t h k hs clean in
    let r : Rels t (eager_run p.0 e) = subst (Rels t) (one_end e s t h k hs clean ht) q.1 in
    let a = ended s (eager_run p.0 e) p.1 hs in
    let b = ended t (eager_run p.0 e) r ht in
    record {
      memory = λ l. a.memory l ∙ sym (b.memory l);
      registers = a.registers ∙ sym b.registers;
      units = λ u. holds_same ((eager_run p.0 e).units u) (s.core.units u) (t.core.units u) (a.units u) (b.units u);
      working_steps = p.1.steps ∙ sym r.steps;
      working_time = p.1.time ∙ sym r.time;
      settled = a.j.settled ∙ sym b.j.settled;
      j = λ i. a.j.location i ∙ sym (b.j.location (b.j.settled ∙ sym a.j.settled ∙ i));
    }

pub two_rooms : {R S : Type 0} (holds : R → Holdings) (tells : R → Request → ℕ) (holds' : S → Holdings) (tells' : S → Request → ℕ) → TwoRooms holds tells holds' tells'
two_rooms holds tells holds' tells' fresh s t cs ds f p q =
    let e = eager_of fresh in
    let h = room holds tells cs e fresh s p (room_fresh fresh f) in
    let k = room holds' tells' ds e fresh t q (room_fresh fresh f) in
    record {
      follows = λ i c. follows e s t h k i c;
      agree = λ i c j. agreed e s t h k i c j;
      first = record { clock = h.inv.counts.clock; waiting = h.inv.counts.waiting };
      second = record { clock = k.inv.counts.clock; waiting = k.inv.counts.waiting };
    }
