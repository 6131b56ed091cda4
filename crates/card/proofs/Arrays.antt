-- Arrays made from their places.
use Rattle.std.proofs.Common.{◌≡◌, ℕ, zero, suc, ◌+◌, ◌<◌, List, map, length, get_or, drop, sym, ap, ◌∙◌, arith, ◌∷◌}
use denote.Param.Members.{Mut}
use Rattle.std.proofs.lemmas.List.{drop_more, drop_all}
use Rattle.std.specs.Fn.{Called}
use Rattle.std.specs.Array.{IsFromFnResult, IsFromFnResultFrom}

-- where each call keeps I and gives h of the element at its place, the array is the map of the list
module _ {F A B : Type 0} (g : Mut F (ℕ × Unit {0}) B) (I : F → Type 0) (h : A → B) (xs : List A) (d : A) (step : (p : F) (i : ℕ) (y : B) (q : F) → I p → i < length xs → Called g p (i, tt) y q → I q × (y ≡ h (get_or xs i d))) where
  made_from : (f : F) (ys : List B) (i n : ℕ) → I f → length xs ≡ i + n → length ys ≡ i + n → IsFromFnResultFrom g f ys i n → drop i ys ≡ map h (drop i xs)
  made_from f ys i zero v l m e = drop_all i ys (omega (arith, m)) ∙ sym (ap (map h) (drop_all i xs (omega (arith, l))))
  made_from f ys i (suc n) v l m e =
      let s = step f i e.1 e.0 v (omega arith) e.3 in
      drop_more ys i e.1 (omega arith)
      ∙ ap (λ (y : B). y ∷ drop (i + 1) ys) (e.2.0 ∙ s.1)
      ∙ ap (λ (zs : List B). h (get_or xs i d) ∷ zs) (made_from e.0 ys (i + 1) n s.0 (omega arith) (omega arith) e.4)
      ∙ sym (ap (map h) (drop_more xs i d (omega arith)))

  pub made_map : (f : F) (ys : List B) (n : ℕ) → I f → length xs ≡ n → IsFromFnResult g f ys n → ys ≡ map h xs
  made_map f ys n v l r = made_from f ys 0 n v (omega arith) (omega (arith, r.long)) r.each
