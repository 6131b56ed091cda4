-- Lists made one after the other.
use Rattle.std.proofs.Common.{◌≡◌, ℕ, ◌+◌, ◌<◌, ◌≤◌, List, [], ◌∷◌, ◌++◌, length, take, set, IfSome, Some, None, Option, sym, refl, ap, ◌∙◌, arith}
use Rattle.std.proofs.lemmas.List.{append_assoc, append-nil, take_all, take_more_set}
use Rattle.std.specs.Option.{option_map}
use Rattle.card.specs.Text.{both}

module _ {X : Type 0} where
  -- what has been made, before what is to come
  abbrev pub ahead : List X → Option (List X) → Option (List X)
  ahead made next = option_map (λ xs. made ++ xs) next

  ahead_push : (made : List X) (x : X) (next : Option (List X)) → ahead made (both (Some x) next) ≡ ahead (made ++ x ∷ []) next
  ahead_push made x None = refl
  ahead_push made x (Some xs) = ap Some (sym (append_assoc made (x ∷ []) xs))

  -- one more is written
  pub ahead_more : (xs : List X) (i : ℕ) (x : X) (next : Option (List X)) → i < length xs → ahead (take (i + 1) (set xs i x)) next ≡ ahead (take i xs) (both (Some x) next)
  ahead_more xs i x next h = ap (λ (l : List X). ahead l next) (take_more_set xs i x h) ∙ sym (ahead_push (take i xs) x next)

  -- all are written
  pub ahead_all : (xs : List X) (i : ℕ) → length xs ≤ i → ahead (take i xs) (Some []) ≡ Some xs
  ahead_all xs i h = ap Some (append-nil (take i xs) ∙ take_all i xs h)

  -- of none there is nothing to show
  pub none_cases : (o : Option X) (Q : X → Type 0) → o ≡ None → IfSome o Q
  none_cases None Q e = tt
  none_cases (Some x) Q e = let z : ◌≡◌ {A = ℕ} 0 1 = cc in absurd (omega arith)

  -- of what there is, to show that it is the one
  pub some_cases : (o : Option X) {Q : X → Type 0} → ((x : X) → o ≡ Some x → Q x) → IfSome o Q
  some_cases None h = tt
  some_cases (Some x) h = h x refl
