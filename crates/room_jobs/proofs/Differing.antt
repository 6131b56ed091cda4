-- The differences of two lists of lines.
use Rattle.std.proofs.Common.{◌≡◌, ℕ, Bool, true, false, cond, eqb, ltb, List, [], ◌∷◌, ◌++◌, length, refl, sym, ap, ◌∙◌, subst, arith, ◌↔◌, ◌⊎◌, inl, inr}
use Rattle.std.proofs.lemmas.List.{append_assoc, append-nil, nil_from_length}
use Rattle.std.proofs.lemmas.Slice.Eq.{bytes_eq-Decides}
use Rattle.std.proofs.lemmas.Bool.{cond-true, cond-false, eq-eqb, eqb-true, le-ltb}
use Rattle.std.specs.List.{flat_map}
use Rattle.std.specs.Ordering.{match_ordering, nat_cmp}
use Rattle.std.specs.declared.cmp.Ordering.{Ordering}
use Rattle.std.specs.declared.cmp.Ordering.TheVariants.{Less, Equal, Greater}
use Rattle.std.specs.Str.{bytes_eq}
use Rattle.room_jobs.specs.Differences.{differences, differing, lines_of, marked, place, unlike}
use Rattle.room_jobs.proofs.Lines.{lines_told}

-- one step: what is left to compare, by the places of the first lines
next : (o : Ordering) (ks ls xs ys : List (List ℕ)) (x y : List ℕ) → ks ≡ x ∷ xs → ls ≡ y ∷ ys → nat_cmp (place x) (place y) ≡ o
    → differing ks ls ≡ match_ordering o (marked 60 x ++ differing xs ls) (unlike x y ++ differing xs ys) (marked 62 y ++ differing ks ys)
next o ks ls xs ys x y p q e =
    subst (λ (cs : List (List ℕ)). differing cs ls ≡ match_ordering o (marked 60 x ++ differing xs ls) (unlike x y ++ differing xs ys) (marked 62 y ++ differing cs ys)) (sym p)
    (subst (λ (cs : List (List ℕ)). differing (x ∷ xs) cs ≡ match_ordering o (marked 60 x ++ differing xs cs) (unlike x y ++ differing xs ys) (marked 62 y ++ differing (x ∷ xs) ys)) (sym q)
    (ap (λ (o : Ordering). match_ordering o (marked 60 x ++ differing xs (y ∷ ys)) (unlike x y ++ differing xs ys) (marked 62 y ++ differing (x ∷ xs) ys)) e))

-- the same of what has been written before
pub passed_first : (out a b x xs y ys : List ℕ) → lines_of a ≡ x ∷ lines_of xs → lines_of b ≡ y ∷ lines_of ys → nat_cmp (place x) (place y) ≡ Less → (out ++ marked 60 x) ++ differences xs b ≡ out ++ differences a b
passed_first out a b x xs y ys p q e =
    append_assoc out (marked 60 x) (differences xs b) ∙ ap (λ (l : List ℕ). out ++ l) (sym (next Less (lines_of a) (lines_of b) (lines_of xs) (lines_of ys) x y p q e))

pub passed_second : (out a b x xs y ys : List ℕ) → lines_of a ≡ x ∷ lines_of xs → lines_of b ≡ y ∷ lines_of ys → nat_cmp (place x) (place y) ≡ Greater → (out ++ marked 62 y) ++ differences a ys ≡ out ++ differences a b
passed_second out a b x xs y ys p q e =
    append_assoc out (marked 62 y) (differences a ys) ∙ ap (λ (l : List ℕ). out ++ l) (sym (next Greater (lines_of a) (lines_of b) (lines_of xs) (lines_of ys) x y p q e))

pub passed_both : (out a b x xs y ys : List ℕ) → lines_of a ≡ x ∷ lines_of xs → lines_of b ≡ y ∷ lines_of ys → nat_cmp (place x) (place y) ≡ Equal → (out ++ unlike x y) ++ differences xs ys ≡ out ++ differences a b
passed_both out a b x xs y ys p q e =
    append_assoc out (unlike x y) (differences xs ys) ∙ ap (λ (l : List ℕ). out ++ l) (sym (next Equal (lines_of a) (lines_of b) (lines_of xs) (lines_of ys) x y p q e))

-- what is left where one of the texts has ended
only_first : (ls : List (List ℕ)) → flat_map (marked 60) ls ≡ differing ls []
only_first [] = refl
only_first (x ∷ xs) = ap (λ (l : List ℕ). marked 60 x ++ l) (only_first xs)

pub ended : (a : List ℕ) → true ≡ eqb (length a) 0 → a ≡ []
ended a e = nil_from_length a (eqb-true (length a) 0 (sym e))

pub left : (out a b : List ℕ) → (a ≡ []) ⊎ (b ≡ []) → (out ++ flat_map (marked 60) (lines_of a)) ++ flat_map (marked 62) (lines_of b) ≡ out ++ differences a b
left out a b (inl e) =
    subst (λ (c : List ℕ). (out ++ flat_map (marked 60) (lines_of c)) ++ flat_map (marked 62) (lines_of b) ≡ out ++ differences c b) (sym e)
    (ap (λ (l : List ℕ). l ++ flat_map (marked 62) (lines_of b)) (append-nil out))
left out a b (inr e) =
    subst (λ (c : List ℕ). (out ++ flat_map (marked 60) (lines_of a)) ++ flat_map (marked 62) (lines_of c) ≡ out ++ differences a c) (sym e)
    (append-nil (out ++ flat_map (marked 60) (lines_of a)) ∙ ap (λ (l : List ℕ). out ++ l) (only_first (lines_of a)))

-- there is no difference just where the lines are the same

same_place : (n : ℕ) → nat_cmp n n ≡ Equal
same_place n = cond-false (ltb n n) Less (cond (eqb n n) Equal Greater) (le-ltb n n (omega arith)) ∙ cond-true (eqb n n) Equal Greater (eq-eqb n n refl)

none : (ls : List (List ℕ)) → differing ls ls ≡ []
none [] = refl
none (x ∷ xs) =
    next Equal (x ∷ xs) (x ∷ xs) xs xs x x refl refl (same_place (place x))
    ∙ ap (λ (l : List ℕ). l ++ differing xs xs) (cond-true (bytes_eq x x) [] (marked 60 x ++ marked 62 x) ((bytes_eq-Decides x x).1 refl))
    ∙ none xs

alike : (ks ls : List (List ℕ)) → differing ks ls ≡ [] → ks ≡ ls
alike [] [] e = refl
alike [] (y ∷ ys) e = absurd cc
alike (x ∷ xs) [] e = absurd cc
alike (x ∷ xs) (y ∷ ys) e = at (nat_cmp (place x) (place y)) (bytes_eq x y) refl e (alike xs ys)
  where
    at : (o : Ordering) (t : Bool) → bytes_eq x y ≡ t → match_ordering o (marked 60 x ++ differing xs (y ∷ ys)) (cond t [] (marked 60 x ++ marked 62 y) ++ differing xs ys) (marked 62 y ++ differing (x ∷ xs) ys) ≡ [] → (differing xs ys ≡ [] → xs ≡ ys) → x ∷ xs ≡ y ∷ ys
    at Less t f e more = absurd cc
    at Greater t f e more = absurd cc
    at Equal false f e more = absurd cc
    at Equal true f e more = let p = (bytes_eq-Decides x y).0 f in let q = more e in cc

pub same_texts : (a b : List ℕ) → differences a b ≡ [] ↔ a ≡ b
same_texts a b = (λ e. lines_told a b (alike (lines_of a) (lines_of b) e), λ e. ap (λ (c : List ℕ). differences a c) (sym e) ∙ none (lines_of a))
