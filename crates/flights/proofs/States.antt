-- The states of the units when one of them changes.
use Rattle.std.proofs.Common.{◌≡◌, ℕ, ◌<◌, ◌≤◌, Bool, true, false, ltb, List, length, get_or, set, replicate, zero, suc, sym, refl, ap, ◌∙◌, subst, ◌⊎◌, inl, inr, arith, ltb-true, ltb-false}
use Rattle.std.proofs.Math.Path.{fun_ext}
use Rattle.std.proofs.lemmas.Bool.{cases_eq}
use Rattle.std.proofs.lemmas.List.{get_or_default, get_or_past, get_or-set_same, get_or-set_other}
use Rattle.flights.specs.declared.flight.UnitState.{UnitState}
use Rattle.flights.specs.declared.flight.UnitState.TheVariants.{Idle}
use Rattle.flights.proofs.Stores.{all_at, at_other, at_same}
use Rattle.flights.specs.Flights.{States, states_in, with_state}

pub with_same : (s : States) (u : ℕ) (x : UnitState) → with_state s u x u ≡ x
unfolding with_state
with_same s u x = at_same s u x

pub with_other : (s : States) (u : ℕ) (x : UnitState) (v : ℕ) → (v ≡ u → ⊥) → with_state s u x v ≡ s v
unfolding with_state
with_other s u x v n = at_other s u x v n

-- what holds of each state after a change
pub with_all : (P : ℕ → UnitState → Type 0) (s : States) (u : ℕ) (x : UnitState) → P u x → ((v : ℕ) → (v ≡ u → ⊥) → P v (s v)) → (v : ℕ) → P v (with_state s u x v)
unfolding with_state
with_all P s u x here there = all_at P s u x here there

-- a list of states with another one at a place
written : (xs : List UnitState) (u : ℕ) (x : UnitState) → u < length xs → (v : ℕ) → states_in (set xs u x) v ≡ with_state (states_in xs) u x v
unfolding states_in
written xs u x h v = go (cases_eq v u)
  where
    go : (v ≡ u) ⊎ (v ≡ u → ⊥) → get_or (set xs u x) v Idle ≡ with_state (λ w. get_or xs w Idle) u x v
    go (inl e) = rw e (get_or-set_same xs u x Idle h ∙ sym (with_same (λ w. get_or xs w Idle) u x))
    go (inr n) = get_or-set_other xs u v x Idle n ∙ sym (with_other (λ w. get_or xs w Idle) u x v n)

pub states_written : (xs : List UnitState) (u : ℕ) (x : UnitState) → u < length xs → states_in (set xs u x) ≡ with_state (states_in xs) u x
states_written xs u x h = fun_ext (written xs u x h)

-- past the end of the list every unit is idle
pub states_past : (xs : List UnitState) (u : ℕ) → length xs ≤ u → states_in xs u ≡ Idle
unfolding states_in
states_past xs u h = get_or_past xs u Idle h

-- what holds of each state in a list, and of an idle one, holds of all
pub states_all : (P : ℕ → UnitState → Type 0) (xs : List UnitState) (n : ℕ) → length xs ≤ n → ((u : ℕ) → P u Idle) → ((u : ℕ) → u < n → P u (states_in xs u)) → (u : ℕ) → P u (states_in xs u)
states_all P xs n h idle below u = go (ltb u n) refl
  where
    go : (b : Bool) → ltb u n ≡ b → P u (states_in xs u)
    go true e = below u (ltb-true u n e)
    go false e = let l = ltb-false u n e in subst (P u) (sym (states_past xs u (omega arith))) (idle u)

-- a state that is read
pub state_read : (xs : List UnitState) (u n : ℕ) (x : UnitState) → n ≡ u → x ≡ get_or xs n x → n < length xs → x ≡ states_in xs u
unfolding states_in
state_read xs u n x i e h = e ∙ get_or_default xs n x Idle h ∙ ap (λ k. get_or xs k Idle) i

-- a change to what a state is leaves all as it was
pub with_it : (s : States) (u : ℕ) (x : UnitState) → s u ≡ x → with_state s u x ≡ s
with_it s u x h = fun_ext (with_all (λ v y. y ≡ s v) s u x (sym h) (λ v n. refl))

-- what holds of each state when one in the list changes
pub written_all : (P : ℕ → UnitState → Type 0) (xs : List UnitState) (u : ℕ) (x : UnitState) → u < length xs → P u x → ((v : ℕ) → P v (states_in xs v)) → (v : ℕ) → P v (states_in (set xs u x) v)
written_all P xs u x l here there v =
    subst (λ s. P v (s v)) (sym (states_written xs u x l)) (with_all P (states_in xs) u x here (λ w n. there w) v)

-- units that are all idle
idle_at : (n u : ℕ) → get_or (replicate n Idle) u Idle ≡ Idle
idle_at zero u = refl
idle_at (suc n) zero = refl
idle_at (suc n) (suc u) = idle_at n u

pub all_idle : (n : ℕ) → states_in (replicate n Idle) ≡ (λ u. Idle)
unfolding states_in
all_idle n = fun_ext (idle_at n)
