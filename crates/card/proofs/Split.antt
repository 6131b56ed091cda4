-- A text's first card.
use Rattle.std.proofs.Common.{◌≡◌, ℕ, suc, ◌<◌, Bool, true, false, cond, eqb, List, [], ◌∷◌, length, take, drop, sym, refl, ap, ◌∙◌, subst, arith, length-drop}
use Rattle.std.proofs.lemmas.Bool.{eqb-false}
use Rattle.std.specs.List.{AllByRecursion}
use Rattle.card.specs.Lines.{up_to, line_of, rest_of, grown, cards_of, Split}

-- the first byte goes to the first card
cards_step : (b : ℕ) (bs : List ℕ) → cards_of (b ∷ bs) ≡ line_of (b ∷ bs) ∷ cards_of (rest_of (b ∷ bs))
cards_step b [] = at (eqb b 10)
  where
    at : (t : Bool) → cond t ([] ∷ []) ((b ∷ []) ∷ []) ≡ take (cond t 0 1) (b ∷ []) ∷ cards_of (drop (suc (cond t 0 1)) (b ∷ []))
    at true = refl
    at false = refl
cards_step b (d ∷ bs) = at (cards_step d bs) (eqb b 10)
  where
    at : cards_of (d ∷ bs) ≡ line_of (d ∷ bs) ∷ cards_of (rest_of (d ∷ bs)) → (t : Bool) → cond t ([] ∷ cards_of (d ∷ bs)) (grown b (cards_of (d ∷ bs))) ≡ take (cond t 0 (suc (up_to 10 (d ∷ bs)))) (b ∷ d ∷ bs) ∷ cards_of (drop (suc (cond t 0 (suc (up_to 10 (d ∷ bs))))) (b ∷ d ∷ bs))
    at ih true = refl
    at ih false = ap (grown b) ih

cards_first : (bs : List ℕ) → 0 < length bs → cards_of bs ≡ line_of bs ∷ cards_of (rest_of bs)
cards_first [] h = absurd (omega arith)
cards_first (b ∷ bs) h = cards_step b bs

-- the first line has no byte 10
line_whole : (bs : List ℕ) → AllByRecursion (λ b. b ≡ 10 → ⊥) (line_of bs)
line_whole [] = tt
line_whole (b ∷ bs) = at (eqb b 10) refl (line_whole bs)
  where
    at : (t : Bool) → eqb b 10 ≡ t → AllByRecursion (λ b. b ≡ 10 → ⊥) (line_of bs) → AllByRecursion (λ b. b ≡ 10 → ⊥) (take (cond t 0 (suc (up_to 10 bs))) (b ∷ bs))
    at true e h = tt
    at false e h = (eqb-false b 10 e, h)

pub split : (bs c ds : List ℕ) → 0 < length bs → c ≡ line_of bs → ds ≡ rest_of bs → Split bs c ds
split bs c ds h p q =
    record {
      line = p;
      after = q;
      cards = cards_first bs h ∙ ap (λ (l : List ℕ). l ∷ cards_of (rest_of bs)) (sym p) ∙ ap (λ (l : List ℕ). c ∷ cards_of l) (sym q);
      shorter = omega (arith, ap length q ∙ length-drop (suc (up_to 10 bs)) bs);
      whole = subst (λ (l : List ℕ). AllByRecursion (λ b. b ≡ 10 → ⊥) l) (sym p) (line_whole bs);
    }
