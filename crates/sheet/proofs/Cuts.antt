-- Texts that are cut at a byte which they do not have.
use Rattle.std.proofs.Common.{◌≡◌, ℕ, zero, suc, ◌+◌, ◌%◌, ◌^◌, ◌<◌, Bool, true, not, ◌&&◌, eqb, List, [], ◌∷◌, ◌++◌, take, replicate, refl, arith}
use Rattle.std.specs.Prelude.{◌≢◌, decimal}
use Rattle.std.specs.List.{AllByRecursion}
use Rattle.std.proofs.lemmas.Bool.{and_parts, eqb-false, not-true}
use Rattle.std.proofs.lemmas.Fmt.{decimal_by_steps}

-- x is not in the text
abbrev pub Without : ℕ → List ℕ → Type 0
Without x xs = AllByRecursion (λ b. b ≢ x) xs

pub cut : (x : ℕ) (xs ys r s : List ℕ) → Without x xs → Without x ys → xs ++ x ∷ r ≡ ys ++ x ∷ s → (xs ≡ ys) × (r ≡ s)
cut x [] [] r s h k e = (refl, cc)
cut x [] (y ∷ ys) r s h k e = absurd (k.0 (cc))
cut x (a ∷ xs) [] r s h k e = absurd (h.0 (cc))
cut x (a ∷ xs) (y ∷ ys) r s h k e =
    let f : a ≡ y = cc in
    let g : xs ++ x ∷ r ≡ ys ++ x ∷ s = cc in
    let t = cut x xs ys r s h.1 k.1 g in
    let u : xs ≡ ys = t.0 in
    (cc, t.1)

-- a test of it, for a text that is written out
abbrev pub is_without : ℕ → List ℕ → Bool
is_without x [] = true
is_without x (b ∷ bs) = not (eqb b x) && is_without x bs

pub without_tested : (x : ℕ) (xs : List ℕ) → is_without x xs ≡ true → Without x xs
without_tested x [] e = tt
without_tested x (b ∷ bs) e =
    let p = and_parts (not (eqb b x)) (is_without x bs) e in
    (eqb-false b x (not-true (eqb b x) p.0), without_tested x bs p.1)

pub without_append : (x : ℕ) (xs ys : List ℕ) → Without x xs → Without x ys → Without x (xs ++ ys)
without_append x [] ys h k = k
without_append x (a ∷ xs) ys h k = (h.0, without_append x xs ys h.1 k)

pub without_take : (x n : ℕ) (xs : List ℕ) → Without x xs → Without x (take n xs)
without_take x zero xs h = tt
without_take x (suc n) [] h = tt
without_take x (suc n) (a ∷ xs) h = (h.0, without_take x n xs h.1)

pub without_blanks : (n : ℕ) → Without 10 (replicate n 32)
without_blanks zero = tt
without_blanks (suc n) = (λ e. omega arith, without_blanks n)

-- decimal digits are 48 to 57
pub without_decimal : (x n : ℕ) → x < 48 → n < 2 ^ 64 → Without x (decimal n)
without_decimal x n h k =
    decimal_by_steps (λ m ds. Without x ds) (λ m l. (λ e. omega arith, tt)) (λ m ds l d. without_append x ds ((48 + m % 10) ∷ []) d (λ e. omega arith, tt)) n k
