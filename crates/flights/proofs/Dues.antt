-- Which transfer goes next, and what draining leaves in the states of the units.
use Rattle.std.proofs.Common.{◌≡◌, ℕ, zero, suc, ◌+◌, ◌<◌, ◌≤◌, Bool, true, false, cond, ◌&&◌, leb, ltb, ◌⊎◌, inl, inr, Ok, Err, refl, sym, ap, subst, ◌∙◌, arith}
use Rattle.std.specs.Prelude.{⊤}
use Rattle.std.proofs.lemmas.Bool.{cases_eq, and_parts, leb-true}
use Rattle.std.proofs.lemmas.Bool.Decides.{nat_tests}
use Rattle.flights.specs.Flights.{Core, States, Next, Drained, units, unit_at, with_state, given, carried, sooner, first_due, on_carry, on_due, drain, later, last_due}
use Rattle.flights.specs.Flights.Drained.{clear, broke}
use Rattle.flights.specs.Flights.Next.{nothing, flies}
use Rattle.flights.specs.declared.flight.Flight.{Flight}
use Rattle.flights.specs.declared.flight.UnitState.{UnitState}
use Rattle.flights.specs.declared.flight.UnitState.TheVariants.{Idle, Busy, Done}
use Rattle.rack.specs.Transfers.{Answer, perform}
use Rattle.flights.proofs.Stores.{with_at, at_same, at_other, all_at}

-- what the search for the next transfer tells
abbrev pub Found : ℕ → ℕ → States → Next → Type 0
Found n by s nothing = (u : ℕ) → u < n → (x : Flight) (due : ℕ) → s u ≡ Busy x due → by < due
Found n by s (flies u x due) = (u < n) × (s u ≡ Busy x due) × (due ≤ by)

found_none : (n by : ℕ) (s : States) → Found n by s nothing → ((x : Flight) (due : ℕ) → s n ≡ Busy x due → by < due) → Found (suc n) by s nothing
found_none n by s f h u l x due i = go (cases_eq u n)
  where
    go : (u ≡ n) ⊎ (u ≡ n → ⊥) → by < due
    go (inl e) = h x due (ap s (sym e) ∙ i)
    go (inr e) = f u (omega arith) x due i

found_sooner : (n by : ℕ) (s : States) (b : Next) (z : UnitState) → s n ≡ z → Found n by s b → Found (suc n) by s (sooner by b n z)
found_sooner n by s nothing Idle i f = found_none n by s f (λ x due j. absurd (cc (sym i ∙ j)))
found_sooner n by s nothing (Done y) i f = found_none n by s f (λ x due j. absurd (cc (sym i ∙ j)))
found_sooner n by s nothing (Busy y at) i f = go (leb at by) refl
  where
    go : (b : Bool) → leb at by ≡ b → Found (suc n) by s (cond b (flies n y at) nothing)
    go true h = (omega arith, i, leb-true at by h)
    go false h = found_none n by s f (λ x due j. let e : at ≡ due = cc in grind (arith, nat_tests))
found_sooner n by s (flies v x due) Idle i f = (omega arith, f.1, f.2)
found_sooner n by s (flies v x due) (Done y) i f = (omega arith, f.1, f.2)
found_sooner n by s (flies v x due) (Busy y at) i f = go (leb at by && ltb at due) refl
  where
    go : (b : Bool) → (leb at by && ltb at due) ≡ b → Found (suc n) by s (cond b (flies n y at) (flies v x due))
    go true h = (omega arith, i, leb-true at by (and_parts (leb at by) (ltb at due) h).0)
    go false h = (omega arith, f.1, f.2)

pub found : (n by : ℕ) (s : States) → Found n by s (first_due n by s)
unfolding first_due
found zero by s = λ u l. absurd (omega arith)
found (suc n) by s = found_sooner n by s (first_due n by s) (s n) refl (found n by s)

-- a property of the states that a transfer carried out has is kept; where draining breaks, a unit is busy
module _ (P : ℕ → UnitState → Type 0) (fine : (u : ℕ) (x : Flight) → P u (Done x)) where
  abbrev pub AllStates : Core → Type 0
  AllStates c = (u : ℕ) → P u (c.states u)

  abbrev pub Held : Drained → Type 0
  Held (clear c) = AllStates c
  Held (broke c due f) = AllStates c × ((u : ℕ) × (u < units) × (x : Flight) × (c.states u ≡ Busy x due))

  held_on : (c : Core) (by : ℕ) (k : Core → Drained) → ((d : Core) → AllStates d → Held (k d)) → AllStates c → (b : Next) → Found units by c.states b → Held (on_due c k b)
  unfolding with_state
  held_on c by k rest h nothing f = h
  held_on c by k rest h (flies u x due) f = go (perform (unit_at u) x.transfer (given x c.memory) (c.units u))
    where
      go : (a : Answer) → Held (on_carry c due k (carried c u x a))
      go (Ok e) = rest _ (all_at P c.states u (Done x) (fine u x) (λ v n. h v))
      go (Err g) = (h, (u, f.0, x, f.1))

  pub drain_held : (n by : ℕ) (c : Core) → AllStates c → Held (drain n by c)
  unfolding drain
  drain_held zero by c h = h
  drain_held (suc n) by c h = held_on c by (drain n by) (λ d g. drain_held n by d g) h (first_due units by c.states) (found units by c.states)

-- how many transfers are under way
abbrev pub one : UnitState → ℕ
one Idle = 0
one (Busy x due) = 1
one (Done x) = 0

pub under_way : ℕ → States → ℕ
under_way zero s = 0
under_way (suc n) s = under_way n s + one (s n)

one_most : (z : UnitState) → one z ≤ 1
one_most Idle = omega arith
one_most (Busy x due) = omega arith
one_most (Done x) = omega arith

few : (n : ℕ) (s : States) → under_way n s ≤ n
unfolding under_way
few zero s = omega arith
few (suc n) s = let a = few n s in let b = one_most (s n) in omega arith

way_same : (n : ℕ) (s t : States) → ((u : ℕ) → u < n → s u ≡ t u) → under_way n s ≡ under_way n t
unfolding under_way
way_same zero s t h = refl
way_same (suc n) s t h = let a = way_same n s t (λ u l. h u (omega arith)) in let b = h n (omega arith) in cc

-- one fewer after one is carried out
one_fewer : (n : ℕ) (s : States) (u : ℕ) (x : Flight) (due : ℕ) → u < n → s u ≡ Busy x due → under_way n s ≡ suc (under_way n (with_at s u (Done x)))
unfolding under_way
one_fewer zero s u x due l i = absurd (omega arith)
one_fewer (suc n) s u x due l i = go (cases_eq u n) (λ k. one_fewer n s u x due k i)
  where
    go : (u ≡ n) ⊎ (u ≡ n → ⊥) → (u < n → under_way n s ≡ suc (under_way n (with_at s u (Done x)))) → under_way (suc n) s ≡ suc (under_way (suc n) (with_at s u (Done x)))
    go (inl e) below =
        let a : one (s n) ≡ 1 = ap one (ap s (sym e) ∙ i) in
        let b : one (with_at s u (Done x) n) ≡ 0 = ap one (ap (with_at s u (Done x)) (sym e) ∙ at_same s u (Done x)) in
        let g = way_same n s (with_at s u (Done x)) (λ v k. sym (at_other s u (Done x) v (λ j. omega arith))) in
        omega arith
    go (inr e) below =
        let a : one (with_at s u (Done x) n) ≡ one (s n) = ap one (at_other s u (Done x) n (λ j. e (sym j))) in
        let g = below (omega arith) in
        omega arith

-- draining leaves nothing that is due: there are steps enough for all that is under way
abbrev pub Left : ℕ → Drained → Type 0
Left by (clear c) = Found units by c.states nothing
Left by (broke c due f) = due ≤ by

left_on : (n by : ℕ) (c : Core) (k : Core → Drained) → ((d : Core) → under_way units d.states ≤ n → Left by (k d)) → under_way units c.states ≤ suc n → (b : Next) → Found units by c.states b → Left by (on_due c k b)
unfolding with_state
left_on n by c k rest h nothing f = f
left_on n by c k rest h (flies u x due) f = go (perform (unit_at u) x.transfer (given x c.memory) (c.units u))
  where
    go : (a : Answer) → Left by (on_carry c due k (carried c u x a))
    go (Ok e) = rest _ (let g = one_fewer units c.states u x due f.0 f.1 in omega arith)
    go (Err g) = f.2

left_after : (n by : ℕ) (c : Core) → under_way units c.states ≤ n → Left by (drain n by c)
unfolding drain
left_after zero by c h = λ u l x due i. let g = one_fewer units c.states u x due l i in absurd (omega arith)
left_after (suc n) by c h = left_on n by c (drain n by) (λ d g. left_after n by d g) h (first_due units by c.states) (found units by c.states)

pub drain_left : (by : ℕ) (c : Core) → Left by (drain units by c)
drain_left by c = left_after units by c (few units c.states)

-- how long a wait lasts: what is due by a time
abbrev pub DueBy : ℕ → UnitState → Type 0
DueBy t Idle = ⊤
DueBy t (Busy x due) = due ≤ t
DueBy t (Done x) = ⊤

pub later_due : (t : ℕ) (z : UnitState) → DueBy (later t z) z
later_due t Idle = tt
later_due t (Busy x due) = omega arith
later_due t (Done x) = tt

pub later_more : (t : ℕ) (z : UnitState) → t ≤ later t z
later_more t Idle = omega arith
later_more t (Busy x due) = omega arith
later_more t (Done x) = omega arith

due_more : (a b : ℕ) (z : UnitState) → a ≤ b → DueBy a z → DueBy b z
due_more a b Idle h d = tt
due_more a b (Busy x due) h d = omega arith
due_more a b (Done x) h d = tt

pub all_due : (n t : ℕ) (s : States) (u : ℕ) → u < n → DueBy (last_due n t s) (s u)
unfolding last_due
all_due zero t s u l = absurd (omega arith)
all_due (suc n) t s u l = go (cases_eq u n) (λ k. all_due n t s u k)
  where
    go : (u ≡ n) ⊎ (u ≡ n → ⊥) → (u < n → DueBy (last_due n t s) (s u)) → DueBy (later (last_due n t s) (s n)) (s u)
    go (inl i) below = subst (λ v. DueBy (later (last_due n t s) (s n)) (s v)) (sym i) (later_due (last_due n t s) (s n))
    go (inr m) below = due_more (last_due n t s) _ (s u) (later_more (last_due n t s) (s n)) (below (omega arith))

pub last_more : (n t : ℕ) (s : States) → t ≤ last_due n t s
unfolding last_due
last_more zero t s = omega arith
last_more (suc n) t s = let a = last_more n t s in let b = later_more (last_due n t s) (s n) in omega arith
