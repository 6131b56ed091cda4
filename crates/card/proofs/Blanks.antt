-- Blanks at the end of a text.
use Rattle.std.proofs.Common.{◌≡◌, ℕ, zero, suc, ◌+◌, ◌-◌, ◌<◌, Bool, true, false, cond, ◌&&◌, eqb, List, [], ◌∷◌, ◌++◌, length, get_or, take, replicate, sym, refl, ap, ◌∙◌, arith, length-append}
use Rattle.std.proofs.lemmas.List.{append_assoc, append-nil, take_all, take_more}
use Rattle.std.proofs.lemmas.Bool.{eqb-true, ne_eqb}
use Rattle.card.specs.Lines.{trimmed}

-- a blank at the end goes
trim_blank : (xs : List ℕ) → trimmed (xs ++ 32 ∷ []) ≡ trimmed xs
trim_blank [] = refl
trim_blank (x ∷ xs) = ap (λ (l : List ℕ). cond (eqb x 32 && eqb (length l) 0) [] (x ∷ l)) (trim_blank xs)

-- and so do many
pub trim_blanks : (xs : List ℕ) (n : ℕ) → trimmed (xs ++ replicate n 32) ≡ trimmed xs
trim_blanks xs zero = ap trimmed (append-nil xs)
trim_blanks xs (suc n) = ap trimmed (sym (append_assoc xs (32 ∷ []) (replicate n 32))) ∙ trim_blanks (xs ++ 32 ∷ []) n ∙ trim_blank xs

-- another byte stays, and all before it
trim_stays : (xs : List ℕ) (b : ℕ) → eqb b 32 ≡ false → trimmed (xs ++ b ∷ []) ≡ xs ++ b ∷ []
trim_stays [] b e = ap (λ (t : Bool). cond (t && true) [] (b ∷ [])) e
trim_stays (x ∷ xs) b e =
    ap (λ (l : List ℕ). cond (eqb x 32 && eqb (length l) 0) [] (x ∷ l)) (trim_stays xs b e)
    ∙ at (eqb x 32) (eqb (length (xs ++ b ∷ [])) 0) refl
  where
    at : (s t : Bool) → eqb (length (xs ++ b ∷ [])) 0 ≡ t → cond (s && t) [] (x ∷ (xs ++ b ∷ [])) ≡ x ∷ (xs ++ b ∷ [])
    at true true f = let n = simp length-append at (eqb-true (length (xs ++ b ∷ [])) 0 f) in absurd (omega arith)
    at true false f = refl
    at false t f = refl

last_of : (xs : List ℕ) → 0 < length xs → xs ≡ take (length xs - 1) xs ++ get_or xs (length xs - 1) 0 ∷ []
last_of xs h =
    let e : length xs ≡ length xs - 1 + 1 = omega arith in
    sym (take_all (length xs) xs (omega arith)) ∙ ap (λ (m : ℕ). take m xs) e ∙ take_more xs (length xs - 1) 0 (omega arith)

pub trim_less : (xs : List ℕ) → 0 < length xs → get_or xs (length xs - 1) 0 ≡ 32 → trimmed (take (length xs - 1) xs) ≡ trimmed xs
trim_less xs h e = sym (trim_blank (take (length xs - 1) xs)) ∙ ap (λ (b : ℕ). trimmed (take (length xs - 1) xs ++ b ∷ [])) (sym e) ∙ ap trimmed (sym (last_of xs h))

pub trim_done : (xs : List ℕ) → 0 < length xs → (get_or xs (length xs - 1) 0 ≡ 32 → ⊥) → xs ≡ trimmed xs
trim_done xs h e = last_of xs h ∙ sym (trim_stays (take (length xs - 1) xs) (get_or xs (length xs - 1) 0) (ne_eqb (get_or xs (length xs - 1) 0) 32 e)) ∙ ap trimmed (sym (last_of xs h))
