-- What an instruction does keeps the relation: it goes on, acknowledges a unit, or issues a transfer.
use Rattle.std.proofs.Common.{◌≡◌, ℕ, ◌<◌, Bool, true, false, not, ◌&&◌, ◌||◌, eqb, ◌⊎◌, inl, inr, Option, Some, None, Ok, Err, refl, sym, ap, subst, ◌∙◌}
use Rattle.std.proofs.lemmas.Bool.{cases_eq, both_ways, false_from_ne_true, and_parts, or_left, or_right, ne_eqb}
use Rattle.cpu.specs.Programs.{Program, memory_after, reads_of, writes_of}
use Rattle.cpu.specs.declared.registers.Registers.{Registers}
use Rattle.flights.specs.Flights.{Core, units, unit_at, with_state, takes, opened, covers, overlap, given}
use Rattle.machine.specs.Steps.{moved, acknowledged}
use Rattle.flights.specs.Watch.{in_input, in_output, meets, meet_mark}
use Rattle.flights.specs.declared.flight.Flight.{Flight}
use Rattle.flights.specs.declared.flight.UnitState.{UnitState}
use Rattle.flights.specs.declared.flight.UnitState.TheVariants.{Idle, Busy, Done}
use Rattle.machine.specs.declared.j.J.{J}
use Rattle.flights.specs.declared.mark.MarkKind.TheVariants.{AreasMeet}
use Rattle.rack.specs.Transfers.{Answer, perform}
use Rattle.word.specs.declared.word.Word.{Word}
use Rattle.rooms.proofs.Areas.{no_mark, none_found, in_area, in_input-area, in_output-area, one_way, no_overlap, given_same, delivered_in, delivered_out}
use Rattle.rooms.proofs.Carry.{busy_open, unit_frame}
use Rattle.rooms.proofs.Eager.{Eager, life_after, filled_by, counted, eager_landed}
use Rattle.rooms.proofs.Eager.Life.{holding}
use Rattle.rooms.proofs.Frame.{Untouched, Dry, Wet, Same, frame, unwritten}
use Rattle.rooms.proofs.Relation.{busy_at, Pending, UnitRel, Low, Quiet, Apart, Rel, Calm}
use Rattle.flights.proofs.Stores.{with_at, at_same, at_other, all_at, both_at, map_at}

-- a unit that is not busy: both machines have the same of it
pub record Free (c : Core) (e : Eager) (u : ℕ) : Type 0 where
  pub unit : e.units u ≡ holding (c.units u)
  pub quiet : (l : ℕ) → busy_at l (c.states u) ≡ false

pub calm_free : (c : Core) (e : Eager) → Rel c e → (u : ℕ) → Calm (c.states u) → Free c e u
calm_free c e r u h = record { unit = go (c.states u) h (r.unit u); quiet = λ l. quiet l (c.states u) h }
  where
    go : (z : UnitState) → Calm z → UnitRel u z (c.units u) (e.units u) c.memory e.memory → e.units u ≡ holding (c.units u)
    go Idle h q = q
    go (Busy x due) h q = absurd h
    go (Done x) h q = q

    quiet : (l : ℕ) (z : UnitState) → Calm z → busy_at l z ≡ false
    quiet l Idle h = refl
    quiet l (Busy x due) h = absurd h
    quiet l (Done x) h = refl

-- what is open is a unit
low_open : (u l : ℕ) (z : UnitState) → Low u z → in_area l (opened z) ≡ true → u < units
low_open u l Idle k h = absurd (both_ways false refl h)
low_open u l (Busy x due) k h = k
low_open u l (Done x) k h = k

wet_area : (o : Option Flight) (l : ℕ) → Wet o l → in_area l o ≡ true
wet_area o l (inl i) = in_input-area l o i
wet_area o l (inr i) = in_output-area l o i

module _ (c : Core) (e : Eager) (r : Rel c e) where
  pub open_at : (u : ℕ) → opened (c.states u) ≡ e.opens u
  open_at u = ap (λ o. o u) r.opened

  wet_low : (u l : ℕ) → Wet (e.opens u) l → u < units
  wet_low u l w = low_open u l (c.states u) (r.low u) (ap (in_area l) (open_at u) ∙ wet_area (e.opens u) l w)

  -- a location outside the areas of open INs is in no area of an IN under way
  dry_quiet : (l : ℕ) → Dry e.opens l → Quiet c.states l
  dry_quiet l h u = false_from_ne_true _ (λ b.
      let i : in_input l (e.opens u) ≡ true = ap (in_input l) (sym (open_at u)) ∙ busy_open l (c.states u) b in
      both_ways _ (h u (wet_low u l (inl i))) i)

  -- an unmarked program comes to the same in both memories
  pub same : (j i : Word) (p : Program) → Untouched e.opens (reads_of p c.memory) (writes_of p c.memory) → Same (Quiet c.states) j i p p c.memory e.memory
  same j i p h = frame e.opens j i (Quiet c.states) dry_quiet p c.memory e.memory r.memory h

  pub same_back : (j i : Word) (p : Program) → Untouched e.opens (reads_of p e.memory) (writes_of p e.memory) → Same (Quiet c.states) j i p p e.memory c.memory
  same_back j i p h = frame e.opens j i (Quiet c.states) dry_quiet p e.memory c.memory (λ l q. sym (r.memory l q)) h

  -- and transfers under way stand as they stood
  pub unit_after : (j i : Word) (p : Program) → Untouched e.opens (reads_of p c.memory) (writes_of p c.memory) → Untouched e.opens (reads_of p e.memory) (writes_of p e.memory) → (u : ℕ)
      → UnitRel u (c.states u) (c.units u) (e.units u) (memory_after p j c.memory) (memory_after p i e.memory)
  unit_after j i p h g u = unit_frame u (c.states u) (c.units u) (e.units u) c.memory (memory_after p j c.memory) e.memory (memory_after p i e.memory)
      (λ l o. let w : Wet (e.opens u) l = inr (ap (in_output l) (sym (open_at u)) ∙ o) in
      unwritten e.opens j j p c.memory h u l (wet_low u l w) w)
      (λ l o. let w : Wet (e.opens u) l = inl (ap (in_input l) (sym (open_at u)) ∙ o) in
      sym (unwritten e.opens i i p e.memory g u l (wet_low u l w) w))
      (r.unit u)

  -- the program acknowledges a unit
  module _ (u : ℕ) (f : Free c e u) where
    -- a write of the unit's state leaves the areas of INs under way, if it does not begin one
    quiet_before : (z : UnitState) (l : ℕ) → Quiet (with_state c.states u z) l → Quiet c.states l
    unfolding with_state
    quiet_before z l q v = go (cases_eq v u)
      where
        go : (v ≡ u) ⊎ (v ≡ u → ⊥) → busy_at l (c.states v) ≡ false
        go (inl i) = ap (λ w. busy_at l (c.states w)) i ∙ f.quiet l
        go (inr n) = ap (busy_at l) (sym (at_other c.states u z v n)) ∙ q v

    shut_apart : Apart (with_at e.opens u None)
    shut_apart v w l i o = r.apart v w l
        (all_at (λ j x. in_input l x ≡ true → in_input l (e.opens j) ≡ true) e.opens u None (λ h. absurd (both_ways false refl h)) (λ j m h. h) v i)
        (all_at (λ j x. in_output l x ≡ true → in_output l (e.opens j) ≡ true) e.opens u None (λ h. absurd (both_ways false refl h)) (λ j m h. h) w o)

    pub acknowledge_rel : (t : ℕ) (g : Registers) (j : J) → Rel (acknowledged u (moved c g c.memory)) (counted t (record e { registers = g; j = j; opens = with_at e.opens u None }))
    unfolding with_state
    acknowledge_rel t g j = record {
      registers = refl;
      memory = λ l q. r.memory l (quiet_before Idle l q);
      unit = all_at (λ v z. UnitRel v z (c.units v) (e.units v) c.memory e.memory) c.states u Idle f.unit (λ v n. r.unit v);
      opened = map_at opened c.states u Idle ∙ ap (λ o. with_at o u None) r.opened;
      low = all_at Low c.states u Idle tt (λ v n. r.low v);
      apart = shut_apart;
    }

    -- a transfer is issued that meets none
    module _ (x : Flight) (due : ℕ) (k : u < units) (free : meet_mark e.opens u x x.location ≡ None) where
      -- it does not meet another unit's open transfer
      unmet : (v : ℕ) → (v ≡ u → ⊥) → meets x (e.opens v) ≡ false
      unfolding meet_mark
      unmet v n = false_from_ne_true _ (λ h.
          let b = none_found units (λ v. not (eqb v u) && meets x (e.opens v)) (no_mark AreasMeet x.location _ free) v (below (e.opens v) (open_at v) h) in
          both_ways _ (ap (λ a. not a && meets x (e.opens v)) (sym (ne_eqb v u n)) ∙ b) h)
        where
          at_state : (z : UnitState) → Low v z → meets x (opened z) ≡ true → v < units
          at_state Idle l h = absurd (both_ways false refl h)
          at_state (Busy y t) l h = l
          at_state (Done y) l h = l

          below : (o : Option Flight) → opened (c.states v) ≡ o → meets x o ≡ true → v < units
          below o i h = at_state (c.states v) (r.low v) (ap (meets x) i ∙ h)

      -- where one of the two is an IN they have no location in common
      clear_of : (o : Option Flight) (l : ℕ) → meets x o ≡ false → covers x.area l ≡ true → Wet o l → (takes x.transfer ≡ true) ⊎ (in_input l o ≡ true) → ⊥
      clear_of None l h p w i = both_ways false refl (wet_area None l w)
      clear_of (Some y) l h p w i = no_overlap x.area y.area l (apart_if i) p (wet_area (Some y) l w)
        where
          one_in : (takes x.transfer ≡ true) ⊎ (in_input l (Some y) ≡ true) → (takes x.transfer || takes y.transfer) ≡ true
          one_in (inl a) = or_left _ _ a
          one_in (inr b) = or_right _ _ (and_parts (takes y.transfer) (covers y.area l) b).0

          apart_if : (takes x.transfer ≡ true) ⊎ (in_input l (Some y) ≡ true) → overlap x.area y.area ≡ false
          apart_if i = ap (λ b. b && overlap x.area y.area) (sym (one_in i)) ∙ h

      -- no IN is under way over the area of an OUT
      out_quiet : (l : ℕ) → in_output l (Some x) ≡ true → Quiet c.states l
      out_quiet l h v = false_from_ne_true _ (λ b. go b (cases_eq v u))
        where
          go : busy_at l (c.states v) ≡ true → (v ≡ u) ⊎ (v ≡ u → ⊥) → ⊥
          go b (inl i) = both_ways _ (f.quiet l) (ap (λ w. busy_at l (c.states w)) (sym i) ∙ b)
          go b (inr n) =
              let i : in_input l (e.opens v) ≡ true = ap (in_input l) (sym (open_at v)) ∙ busy_open l (c.states v) b in
              clear_of (e.opens v) l (unmet v n) (in_output-area l (Some x) h) (inl i) (inr i)

      given_alike : given x c.memory ≡ given x e.memory
      given_alike = given_same x c.memory e.memory (λ l h. r.memory l (out_quiet l h))

      abbrev answer : Answer
      answer = perform (unit_at u) x.transfer (given x c.memory) (c.units u)

      -- nothing comes into memory outside the area
      filled_out : (a : Answer) (l : ℕ) → in_input l (Some x) ≡ false → filled_by x a e.memory l ≡ e.memory l
      filled_out (Ok y) l h = delivered_out x y.block e.memory l h
      filled_out (Err g) l h = refl

      issue_memory : (l : ℕ) → Quiet (with_state c.states u (Busy x due)) l → c.memory l ≡ filled_by x answer e.memory l
      unfolding with_state
      issue_memory l q =
          let h : in_input l (Some x) ≡ false = ap (busy_at l) (sym (at_same c.states u (Busy x due))) ∙ q u in
          r.memory l (quiet_before (Busy x due) l q) ∙ sym (filled_out answer l h)

      issue_unit : (v : ℕ) → UnitRel v (with_state c.states u (Busy x due) v) (c.units v) (with_at e.units u (life_after answer) v) c.memory (filled_by x answer e.memory)
      unfolding with_state
      issue_unit = both_at (λ v z l. UnitRel v z (c.units v) l c.memory (filled_by x answer e.memory)) c.states e.units u (Busy x due) (life_after answer)
          (go answer)
          (λ v n. unit_frame v (c.states v) (c.units v) (e.units v) c.memory c.memory e.memory (filled_by x answer e.memory) (λ l i. refl)
          (λ l i.
          let o : in_input l (e.opens v) ≡ true = ap (in_input l) (sym (open_at v)) ∙ i in
          sym (filled_out answer l (false_from_ne_true _ (λ b. clear_of (e.opens v) l (unmet v n) (in_input-area l (Some x) b) (inl o) (inr o)))))
          (r.unit v))
        where
          go : (a : Answer) → Pending x (life_after a) (filled_by x a e.memory) a
          go (Ok y) = (refl, λ i h. sym (delivered_in x y.block e.memory i h))
          go (Err g) = refl

      issue_apart : Apart (with_at e.opens u (Some x))
      issue_apart v w l i o = go (cases_eq v u) (cases_eq w u)
        where
          here : (b : Option Flight → Bool) (j : ℕ) → j ≡ u → b (with_at e.opens u (Some x) j) ≡ true → b (Some x) ≡ true
          here b j m h = ap b (sym (ap (with_at e.opens u (Some x)) m ∙ at_same e.opens u (Some x))) ∙ h

          there : (b : Option Flight → Bool) (j : ℕ) → (j ≡ u → ⊥) → b (with_at e.opens u (Some x) j) ≡ true → b (e.opens j) ≡ true
          there b j m h = ap b (sym (at_other e.opens u (Some x) j m)) ∙ h

          go : (v ≡ u) ⊎ (v ≡ u → ⊥) → (w ≡ u) ⊎ (w ≡ u → ⊥) → ⊥
          go (inl a) (inl b) =
              one_way x.transfer (and_parts (takes x.transfer) _ (here (in_input l) v a i)).0 (and_parts _ (covers x.area l) (here (in_output l) w b o)).0
          go (inl a) (inr b) =
              let p = here (in_input l) v a i in
              clear_of (e.opens w) l (unmet w b) (in_input-area l (Some x) p) (inr (there (in_output l) w b o)) (inl (and_parts (takes x.transfer) _ p).0)
          go (inr a) (inl b) =
              let p = there (in_input l) v a i in
              clear_of (e.opens v) l (unmet v a) (in_output-area l (Some x) (here (in_output l) w b o)) (inl p) (inr p)
          go (inr a) (inr b) = r.apart v w l (there (in_input l) v a i) (there (in_output l) w b o)

      pub issue_rel : (t : ℕ) (g : Registers) → Rel (record c { registers = g; states = with_state c.states u (Busy x due) })
          (eager_landed e t u g x (perform (unit_at u) x.transfer (given x e.memory) (c.units u)))
      unfolding with_state
      issue_rel t g = subst (λ ws. Rel (record c { registers = g; states = with_state c.states u (Busy x due) }) (eager_landed e t u g x (perform (unit_at u) x.transfer ws (c.units u)))) given_alike
          (record {
            registers = refl;
            memory = issue_memory;
            unit = issue_unit;
            opened = map_at opened c.states u (Busy x due) ∙ ap (λ o. with_at o u (Some x)) r.opened;
            low = all_at Low c.states u (Busy x due) k (λ v n. r.low v);
            apart = issue_apart;
          })
