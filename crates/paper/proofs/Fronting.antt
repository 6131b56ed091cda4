-- The front of a text that has its first cards.
use Rattle.std.proofs.Common.{◌≡◌, ℕ, zero, suc, ◌+◌, ◌-◌, ◌<◌, Bool, cond, List, [], ◌∷◌, ◌++◌, length, get_or, take, drop, refl, ap, subst, ◌∙◌, sym, arith}
use Rattle.std.proofs.lemmas.Bool.{ne_eqb}
use Rattle.std.proofs.lemmas.List.{append_assoc, drop_more, take_more}
use Rattle.card.specs.Lines.{cards_of, grown}
use Rattle.paper.specs.Cards.{CutAfter}

-- the first cards with one byte more at their front
grown_take : (b n : ℕ) (cs : List (List ℕ)) → grown b (take (suc n) cs) ≡ take (suc n) (grown b cs)
grown_take b zero [] = refl
grown_take b (suc n) [] = refl
grown_take b n (c ∷ cs) = refl

grown_drop : (b n : ℕ) (cs : List (List ℕ)) → drop (suc n) cs ≡ drop (suc n) (grown b cs)
grown_drop b zero [] = refl
grown_drop b (suc n) [] = refl
grown_drop b zero (c ∷ cs) = refl
grown_drop b (suc n) (c ∷ cs) = refl

-- no card is cut off
pub cut_none : (bs : List ℕ) → CutAfter 0 bs [] bs
cut_none bs = record { whole = refl; first = refl; others = refl }

-- all cards are
pub cut_all : (n : ℕ) → CutAfter n [] [] []
cut_all zero = record { whole = refl; first = refl; others = refl }
cut_all (suc n) = record { whole = refl; first = refl; others = refl }

-- one byte more ends a card
pub cut_ended : (b n m : ℕ) (bs xs ys : List ℕ) → (n ≡ 0 → ⊥) → m ≡ n - 1 → b ≡ 10 → CutAfter m bs xs ys → CutAfter n (b ∷ bs) (b ∷ xs) ys
cut_ended b zero m bs xs ys h l e c = absurd (h refl)
cut_ended b (suc n) m bs xs ys h l e c =
    let k : m ≡ n = omega arith in
    subst (λ (d : ℕ). CutAfter (suc n) (d ∷ bs) (d ∷ xs) ys) (sym e)
    (record {
      whole = ap (λ (l : List ℕ). 10 ∷ l) c.whole;
      first = ap (λ (l : List (List ℕ)). [] ∷ l) (c.first ∙ ap (λ (d : ℕ). take d (cards_of bs)) k);
      others = c.others ∙ ap (λ (d : ℕ). drop d (cards_of bs)) k;
    })

-- or is of the card that follows it
pub cut_grown : (b n m : ℕ) (bs xs ys : List ℕ) → (n ≡ 0 → ⊥) → m ≡ n → (b ≡ 10 → ⊥) → CutAfter m bs xs ys → CutAfter n (b ∷ bs) (b ∷ xs) ys
cut_grown b zero m bs xs ys h l e c = absurd (h refl)
cut_grown b (suc n) m bs xs ys h l e c =
    let f = ne_eqb b 10 e in
    record {
      whole = ap (λ (k : List ℕ). b ∷ k) c.whole;
      first =
          ap (λ (t : Bool). cond t ([] ∷ cards_of xs) (grown b (cards_of xs))) f
          ∙ ap (grown b) (c.first ∙ ap (λ (d : ℕ). take d (cards_of bs)) l)
          ∙ grown_take b n (cards_of bs)
          ∙ ap (λ (t : Bool). take (suc n) (cond t ([] ∷ cards_of bs) (grown b (cards_of bs)))) (sym f);
      others =
          c.others ∙ ap (λ (d : ℕ). drop d (cards_of bs)) l
          ∙ grown_drop b n (cards_of bs)
          ∙ ap (λ (t : Bool). drop (suc n) (cond t ([] ∷ cards_of bs) (grown b (cards_of bs)))) (sym f);
    }

-- the cut of a rest, which a byte before it carries to the text
pub cut_more : (i n m : ℕ) (bs xs ys : List ℕ) → i < length bs → ((us vs : List ℕ) → CutAfter m (drop i bs) us vs → CutAfter n bs (take i bs ++ us) vs) → CutAfter m (get_or bs i 0 ∷ drop (i + 1) bs) (get_or bs i 0 ∷ xs) ys → CutAfter n bs (take (i + 1) bs ++ xs) ys
cut_more i n m bs xs ys h all c =
    let b = get_or bs i 0 in
    let e : take (i + 1) bs ++ xs ≡ take i bs ++ (b ∷ xs) = ap (λ (l : List ℕ). l ++ xs) (take_more bs i 0 h) ∙ append_assoc (take i bs) (b ∷ []) xs in
    subst (λ (l : List ℕ). CutAfter n bs l ys) (sym e) (all (b ∷ xs) ys (subst (λ (l : List ℕ). CutAfter m l (b ∷ xs) ys) (sym (drop_more bs i 0 h)) c))
