-- What follows END changes nothing.
use Rattle.std.proofs.Common.{◌≡◌, ℕ, suc, ◌<◌, Bool, true, false, cond, eqb, ◌⊎◌, List, [], ◌∷◌, ◌++◌, length, None, Ok, sym, refl, ap, ◌∙◌, inl, inr, arith}
use Rattle.card.specs.Lines.{cards_of, grown}
use Rattle.mixal.specs.Assembled.{read_from, is_last, unless_rejected}
use Rattle.mixal.specs.Causes.{cause_of}
use Rattle.mixal.specs.Deck.{State, fresh, after_card, is_end}
use Rattle.mixal.specs.Ends.{Assembled, ended, at_end}
use Rattle.deck_laws.specs.After.{AfterEnd}
use Rattle.deck_laws.proofs.Trace.{GoesOn, goes_on, end_clean}

-- more cards after END
more_cards : (s : State) (cs ds : List (List ℕ)) (a : Assembled) → read_from s cs ≡ Ok a → read_from s (cs ++ ds) ≡ Ok a
more_cards s [] ds a e = let z : ◌≡◌ {A = ℕ} 0 1 = cc in absurd (omega arith)
more_cards s (c ∷ cs) ds a e = at (is_end c) refl (goes_on s c cs a e) (more_cards (after_card s c) cs ds a)
  where
    -- a card that is good is good whatever follows it, if it is END or another follows anyhow
    still : (xs : List (List ℕ)) → cause_of false s c ≡ None → is_end c ≡ true ⊎ (is_last xs ≡ false) → cause_of (is_last xs) s c ≡ None
    still xs f (inl h) = end_clean (is_last xs) s c f h
    still xs f (inr h) = ap (λ (b : Bool). cause_of b s c) h ∙ f

    not_last : (xs : List (List ℕ)) → read_from (after_card s c) xs ≡ Ok a → is_last (xs ++ ds) ≡ false
    not_last [] h = let z : ◌≡◌ {A = ℕ} 0 1 = cc in absurd (omega arith)
    not_last (x ∷ xs) h = refl

    at : (b : Bool) → is_end c ≡ b → GoesOn s c cs a → (read_from (after_card s c) cs ≡ Ok a → read_from (after_card s c) (cs ++ ds) ≡ Ok a) → read_from s (c ∷ (cs ++ ds)) ≡ Ok a
    at true h g rec =
        ap (unless_rejected (suc (length s.drafts)) (cond (is_end c) (Ok (ended (length s.drafts) (at_end s c) c)) (read_from (after_card s c) (cs ++ ds)))) (still (cs ++ ds) g.0 (inl h))
        ∙ ap (λ (b : Bool). cond b (Ok (ended (length s.drafts) (at_end s c) c)) (read_from (after_card s c) (cs ++ ds))) h
        ∙ ap Ok (sym (g.1 h))
    at false h g rec =
        ap (unless_rejected (suc (length s.drafts)) (cond (is_end c) (Ok (ended (length s.drafts) (at_end s c) c)) (read_from (after_card s c) (cs ++ ds)))) (still (cs ++ ds) g.0 (inr (not_last cs (g.2 h))))
        ∙ ap (λ (b : Bool). cond b (Ok (ended (length s.drafts) (at_end s c) c)) (read_from (after_card s c) (cs ++ ds))) h
        ∙ rec (g.2 h)

some_card : (b : ℕ) (bs : List ℕ) → 0 < length (cards_of (b ∷ bs))
some_card b bs = at (eqb b 10) (cards_of bs)
  where
    at : (t : Bool) (cs : List (List ℕ)) → 0 < length (cond t ([] ∷ cs) (grown b cs))
    at true cs = omega arith
    at false [] = omega arith
    at false (c ∷ cs) = omega arith

grown_on : (b : ℕ) (cs ds : List (List ℕ)) → 0 < length cs → grown b (cs ++ ds) ≡ grown b cs ++ ds
grown_on b [] ds h = absurd (omega arith)
grown_on b (c ∷ cs) ds h = refl

-- a line end and more text leave the cards before them as they are
more_text : (bs more : List ℕ) → (ds : List (List ℕ)) × (cards_of (bs ++ 10 ∷ more) ≡ cards_of bs ++ ds)
more_text [] more = ([] ∷ cards_of more, refl)
more_text (b ∷ []) more = at (eqb b 10)
  where
    at : (t : Bool) → (ds : List (List ℕ)) × (cond t ([] ∷ [] ∷ cards_of more) (grown b ([] ∷ cards_of more)) ≡ cond t ([] ∷ []) (grown b []) ++ ds)
    at true = ([] ∷ cards_of more, refl)
    at false = (cards_of more, refl)
more_text (b ∷ x ∷ bs) more =
    let r = more_text (x ∷ bs) more in (
      r.0,
      ap (λ (cs : List (List ℕ)). cond (eqb b 10) ([] ∷ cs) (grown b cs)) r.1 ∙ at (eqb b 10) r.0 (some_card x bs),
    )
  where
    at : (t : Bool) (ds : List (List ℕ)) → 0 < length (cards_of (x ∷ bs)) → cond t ([] ∷ (cards_of (x ∷ bs) ++ ds)) (grown b (cards_of (x ∷ bs) ++ ds)) ≡ cond t ([] ∷ cards_of (x ∷ bs)) (grown b (cards_of (x ∷ bs))) ++ ds
    at true ds h = refl
    at false ds h = grown_on b (cards_of (x ∷ bs)) ds h

pub after_end : (text : List ℕ) → AfterEnd text
after_end text a more e =
    let r = more_text text more in
    ap (read_from fresh) r.1 ∙ more_cards fresh (cards_of text) r.0 a e
