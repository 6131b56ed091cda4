-- Stores: functions of a number with another value at one place.
use Rattle.std.proofs.Common.{◌≡◌, ℕ, cond, eqb, ◌⊎◌, inl, inr, refl, sym, ap, subst}
use mathlib.Core.Path.{fun_ext}
use Rattle.std.proofs.lemmas.Bool.{cases_eq, cond-true, cond-false, eq-eqb, ne_eqb}

-- memory, holdings and states of units are written so
abbrev pub with_at : {A : Type 0} → (ℕ → A) → ℕ → A → ℕ → A
with_at f k x j = cond (eqb j k) x (f j)

pub at_same : {A : Type 0} (f : ℕ → A) (k : ℕ) (x : A) → with_at f k x k ≡ x
at_same f k x = cond-true (eqb k k) x (f k) (eq-eqb k k refl)

pub at_other : {A : Type 0} (f : ℕ → A) (k : ℕ) (x : A) (j : ℕ) → (j ≡ k → ⊥) → with_at f k x j ≡ f j
at_other f k x j n = cond-false (eqb j k) x (f j) (ne_eqb j k n)

-- a property of each value after a write
pub all_at : {A : Type 0} (P : ℕ → A → Type 0) (f : ℕ → A) (k : ℕ) (x : A) → P k x → ((j : ℕ) → (j ≡ k → ⊥) → P j (f j)) → (j : ℕ) → P j (with_at f k x j)
all_at P f k x here there j = go (cases_eq j k)
  where
    go : (j ≡ k) ⊎ (j ≡ k → ⊥) → P j (with_at f k x j)
    go (inl e) = subst (λ i. P i (with_at f k x i)) (sym e) (subst (P k) (sym (at_same f k x)) here)
    go (inr n) = subst (P j) (sym (at_other f k x j n)) (there j n)

-- the same of two stores that are written at one place
pub both_at : {A B : Type 0} (P : ℕ → A → B → Type 0) (f : ℕ → A) (g : ℕ → B) (k : ℕ) (x : A) (y : B) → P k x y → ((j : ℕ) → (j ≡ k → ⊥) → P j (f j) (g j)) → (j : ℕ) → P j (with_at f k x j) (with_at g k y j)
both_at P f g k x y here there j = go (cases_eq j k)
  where
    go : (j ≡ k) ⊎ (j ≡ k → ⊥) → P j (with_at f k x j) (with_at g k y j)
    go (inl e) = subst (λ i. P i (with_at f k x i) (with_at g k y i)) (sym e) (subst (λ z. P k z (with_at g k y k)) (sym (at_same f k x)) (subst (P k x) (sym (at_same g k y)) here))
    go (inr n) = subst (λ z. P j z (with_at g k y j)) (sym (at_other f k x j n)) (subst (P j (f j)) (sym (at_other g k y j n)) (there j n))

-- two stores that agree at a place still do after one write of both
pub at_agree : {A : Type 0} (f g : ℕ → A) (k : ℕ) (x : A) (j : ℕ) → f j ≡ g j → with_at f k x j ≡ with_at g k x j
at_agree f g k x j e = ap (cond (eqb j k) x) e

-- what is made of a store's values after a write
pub map_at : {A B : Type 0} (h : A → B) (f : ℕ → A) (k : ℕ) (x : A) → (λ j. h (with_at f k x j)) ≡ with_at (λ j. h (f j)) k (h x)
map_at h f k x = fun_ext (both_at (λ j y z. h y ≡ z) f (λ j. h (f j)) k x (h x) refl (λ j n. refl))
