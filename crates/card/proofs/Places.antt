-- The place of a number in a list, and a test at each entry of a list.
use Rattle.std.proofs.Common.{◌≡◌, ℕ, zero, suc, ◌+◌, ◌<◌, Bool, true, false, cond, ◌&&◌, eqb, List, [], ◌∷◌, length, get_or, Some, None, refl, ap, ◌∙◌, add-zero, arith}
use Rattle.std.proofs.lemmas.Bool.{and_parts, eqb-true, eqb-false}
use Rattle.card.specs.Table.{place_from}

-- what is found stands there
pub place_some : (k : ℕ) (xs : List ℕ) (b c : ℕ) → place_from k xs b ≡ Some c → (i : ℕ) × (c ≡ k + i) × (i < length xs) × (get_or xs i 0 ≡ b)
place_some k [] b c e = let z : ◌≡◌ {A = ℕ} 0 1 = cc in absurd (omega arith)
place_some k (x ∷ xs) b c e = at (eqb x b) refl e (place_some (suc k) xs b c)
  where
    at : (t : Bool) → eqb x b ≡ t → cond t (Some k) (place_from (suc k) xs b) ≡ Some c → (place_from (suc k) xs b ≡ Some c → (i : ℕ) × (c ≡ suc k + i) × (i < length xs) × (get_or xs i 0 ≡ b)) → (i : ℕ) × (c ≡ k + i) × (i < suc (length xs)) × (get_or (x ∷ xs) i 0 ≡ b)
    at true f g rec = let h : k ≡ c = cc in (0, omega arith, omega arith, eqb-true x b f)
    at false f g rec = let r = rec g in (suc r.0, omega arith, omega arith, r.3)

-- what is not found stands nowhere
pub place_none : (k : ℕ) (xs : List ℕ) (b : ℕ) → place_from k xs b ≡ None → (i : ℕ) → i < length xs → get_or xs i 0 ≡ b → ⊥
place_none k [] b e i h f = omega arith
place_none k (x ∷ xs) b e i h f = at (eqb x b) refl e (place_none (suc k) xs b) i h f
  where
    at : (t : Bool) → eqb x b ≡ t → cond t (Some k) (place_from (suc k) xs b) ≡ None → (place_from (suc k) xs b ≡ None → (i : ℕ) → i < length xs → get_or xs i 0 ≡ b → ⊥) → (i : ℕ) → i < suc (length xs) → get_or (x ∷ xs) i 0 ≡ b → ⊥
    at true p g rec i h f = let z : ◌≡◌ {A = ℕ} 0 1 = cc in omega arith
    at false p g rec zero h f = eqb-false x b p f
    at false p g rec (suc i) h f = rec g i (omega arith) f

-- the test passes at each entry and its place, counted from i
abbrev pub every : (ℕ → ℕ → Bool) → ℕ → List ℕ → Bool
every test i [] = true
every test i (x ∷ xs) = test i x && every test (suc i) xs

-- so it passes at any one of them
pub every_at : (test : ℕ → ℕ → Bool) (i : ℕ) (xs : List ℕ) → every test i xs ≡ true → (k : ℕ) → k < length xs → test (i + k) (get_or xs k 0) ≡ true
every_at test i [] t k h = absurd (omega arith)
every_at test i (x ∷ xs) t zero h = ap (λ (n : ℕ). test n x) (add-zero i) ∙ (and_parts (test i x) (every test (suc i) xs) t).0
every_at test i (x ∷ xs) t (suc k) h =
    let e : i + suc k ≡ suc i + k = omega arith in
    ap (λ (n : ℕ). test n (get_or xs k 0)) e ∙ every_at test (suc i) xs (and_parts (test i x) (every test (suc i) xs) t).1 k (omega arith)
