-- The first bad card and the smallest number on it.
use Rattle.std.proofs.Common.{◌≡◌, ℕ, zero, suc, ◌+◌, ◌-◌, ◌<◌, Bool, true, false, cond, ltb, ◌⊎◌, List, [], ◌∷◌, length, get_or, Some, None, Ok, Err, Option, Result, sym, refl, ap, ◌∙◌, subst, inl, inr, arith, ltb-true, leb-false}
use Rattle.mixal.specs.Assembled.{read_from, is_last, unless_rejected}
use Rattle.mixal.specs.Causes.{holds, misses_end, all_causes, cause_of, number_of}
use Rattle.mixal.specs.Deck.{State, fresh, after_card, is_end}
use Rattle.mixal.specs.Ends.{Assembled, ended, at_end}
use Rattle.mixal.specs.declared.cause.Cause.{Cause}
use Rattle.mixal.specs.declared.cause.Cause.TheVariants.{Text, NoEnd}
use Rattle.mixal.specs.declared.cause.Rejection.{Rejection}
use Rattle.std.proofs.lemmas.Bool.{both_ways}
use Rattle.deck_laws.specs.Reading.{EndsAt}
use Rattle.deck_laws.specs.Rejections.{Bad, Good, FirstBad, Judged, Rejections}
use Rattle.deck_laws.proofs.Trace.{free, clean, smallest, numbered, grows}

-- what the answer says of the cards from a state on, n cards having gone before
abbrev From : State → ℕ → List (List ℕ) → Result Assembled Rejection → Type 0
From s n cs (Ok a) = Good s cs × ((k : ℕ) × EndsAt s cs k × (a.cards ≡ suc (n + k)))
From s n cs (Err p) =
    ((k : ℕ) × (p.card ≡ suc (n + k)) × FirstBad s cs p.cause k)
    ⊎ ((cs ≡ []) × (p ≡ record { cause = NoEnd; card = n }))

-- a cause of the first card
bad_here : (x : Cause) (s : State) (c : List ℕ) (cs : List (List ℕ)) → Bad x s (c ∷ cs) 0 → holds (is_last cs) x s c ≡ true
bad_here x s c cs b =
    ap (λ (v : List (List ℕ)). holds (is_last v) x s c) (sym b.3.2)
    ∙ ap (λ (v : List ℕ). holds (is_last b.2) x s v) (sym b.3.1)
    ∙ ap (λ (v : State). holds (is_last b.2) x v b.1) (sym b.3.0) ∙ b.4

-- a good card that is not END
bad_later : (x : Cause) (s : State) (c : List ℕ) (cs : List (List ℕ)) (k : ℕ) → Bad x s (c ∷ cs) (suc k) → Bad x (after_card s c) cs k
bad_later x s c cs k b = (b.0, b.1, b.2, b.3.1, b.4)

good_on : (s : State) (c : List ℕ) (cs : List (List ℕ)) → cause_of (is_last cs) s c ≡ None → Good (after_card s c) cs → Good s (c ∷ cs)
good_on s c cs e g x zero b = both_ways _ (free (is_last cs) s c e x) (bad_here x s c cs b)
good_on s c cs e g x (suc k) b = g x k (bad_later x s c cs k b)

ends_on : (s : State) (c : List ℕ) (cs : List (List ℕ)) (k : ℕ) → is_end c ≡ false → EndsAt (after_card s c) cs k → EndsAt s (c ∷ cs) (suc k)
ends_on s c cs k n b = (b.0, b.1, b.2, (n, b.3), b.4)

first_on : (s : State) (c : List ℕ) (cs : List (List ℕ)) (x : Cause) (k : ℕ) → cause_of (is_last cs) s c ≡ None → is_end c ≡ false → FirstBad (after_card s c) cs x k → FirstBad s (c ∷ cs) x (suc k)
first_on s c cs x k e n f =
    record {
      bad = (f.bad.0, f.bad.1, f.bad.2, (n, f.bad.3), f.bad.4);
      smallest = λ y l b. f.smallest y l (bad_later y s c cs k b);
      earliest = earliest;
    }
  where
    earliest : (y : Cause) (j : ℕ) → j < suc k → Bad y s (c ∷ cs) j → ⊥
    earliest y zero l b = both_ways _ (free (is_last cs) s c e y) (bad_here y s c cs b)
    earliest y (suc j) l b = f.earliest y j (omega arith) (bad_later y s c cs j b)

-- a good card that is not END is not the last
followed : (s : State) (c : List ℕ) (cs : List (List ℕ)) → cause_of (is_last cs) s c ≡ None → is_end c ≡ false → cs ≡ [] → ⊥
followed s c [] e n q = both_ways _ (free true s c e NoEnd) (ap (misses_end true) n)
followed s c (d ∷ ds) e n q = let m = ap length q in omega arith

-- one good card more
later : (s : State) (n : ℕ) (c : List ℕ) (cs : List (List ℕ)) (r : Result Assembled Rejection) → cause_of (is_last cs) s c ≡ None → is_end c ≡ false → From (after_card s c) (suc n) cs r → From s n (c ∷ cs) r
later s n c cs (Ok a) e h f = (good_on s c cs e f.0, (suc f.1.0, ends_on s c cs f.1.0 h f.1.1, omega (arith, f.1.2)))
later s n c cs (Err p) e h (inl f) = inl (suc f.0, omega (arith, f.1), first_on s c cs p.cause f.0 e h f.2)
later s n c cs (Err p) e h (inr f) = absurd (followed s c cs e h f.0)

-- END is the last card
ending : (s : State) (n : ℕ) (c : List ℕ) (cs : List (List ℕ)) (a : Assembled) → cause_of (is_last cs) s c ≡ None → is_end c ≡ true → a.cards ≡ suc n → From s n (c ∷ cs) (Ok a)
ending s n c cs a e h q = (good, (0, (s, c, cs, (refl, refl, refl), h), omega (arith, q)))
  where
    good : Good s (c ∷ cs)
    good x zero b = both_ways _ (free (is_last cs) s c e x) (bad_here x s c cs b)
    good x (suc k) b = both_ways _ b.3.0 h

-- a bad card
bad : (s : State) (n : ℕ) (c : List ℕ) (cs : List (List ℕ)) (x : Cause) → cause_of (is_last cs) s c ≡ Some x → From s n (c ∷ cs) (Err (record { cause = x; card = suc n }))
bad s n c cs x e =
    let q = smallest (is_last cs) s c x e in
    inl (
      0,
      omega arith,
      record {
        bad = (s, c, cs, (refl, refl, refl), q.0);
        smallest = λ y l b. both_ways _ (q.1 y l) (bad_here y s c cs b);
        earliest = λ y j l b. omega arith;
      },
    )

judged : (s : State) (n : ℕ) (cs : List (List ℕ)) → length s.drafts ≡ n → From s n cs (read_from s cs)
judged s n [] e = inr (refl, ap (λ (m : ℕ). record { cause = NoEnd; card = m }) e)
judged s n (c ∷ cs) e = at (cause_of (is_last cs) s c) (is_end c) refl refl (λ h. judged (after_card s c) (suc n) cs (grows s c (clean (is_last cs) s c h) ∙ ap suc e))
  where
    at : (o : Option Cause) (b : Bool) → cause_of (is_last cs) s c ≡ o → is_end c ≡ b → (cause_of (is_last cs) s c ≡ None → From (after_card s c) (suc n) cs (read_from (after_card s c) cs)) → From s n (c ∷ cs) (unless_rejected (suc (length s.drafts)) (cond b (Ok (ended (length s.drafts) (at_end s c) c)) (read_from (after_card s c) cs)) o)
    at None true h g rec = ending s n c cs (ended (length s.drafts) (at_end s c) c) h g (ap suc e)
    at None false h g rec = later s n c cs (read_from (after_card s c) cs) h g (rec h)
    at (Some x) b h g rec = let P : ℕ → Type 0 = λ m. From s n (c ∷ cs) (Err (record { cause = x; card = suc m })) in subst P (sym e) (bad s n c cs x h)

same_number : (a b : ℕ) → (a < b → ⊥) → (b < a → ⊥) → a ≡ b
same_number a b p q = at (ltb a b) (ltb b a) refl refl
  where
    at : (s t : Bool) → ltb a b ≡ s → ltb b a ≡ t → a ≡ b
    at true t e f = absurd (p (ltb-true a b e))
    at false true e f = absurd (q (ltb-true b a f))
    at false false e f = omega (arith, leb-false (suc a) b e, leb-false (suc b) a f)

-- there is only one first bad card, and one smallest cause on it
one_first : (cs : List (List ℕ)) (x y : Cause) (j k : ℕ) → FirstBad fresh cs x j → FirstBad fresh cs y k → (x ≡ y) × (j ≡ k)
one_first cs x y j k f g =
    let e : j ≡ k = same_number j k (λ l. g.earliest x j l f.bad) (λ l. f.earliest y k l g.bad) in
    let P : ℕ → Type 0 = λ i. Bad x fresh cs i in
    let Q : ℕ → Type 0 = λ i. Bad y fresh cs i in
    let n : number_of x ≡ number_of y = same_number (number_of x) (number_of y) (λ l. g.smallest x l (subst P e f.bad)) (λ l. f.smallest y l (subst Q (sym e) g.bad)) in
    (sym (numbered x) ∙ ap (λ (i : ℕ). get_or all_causes (i - 1) Text) n ∙ numbered y, e)

abbrev told : Cause → ℕ → Result Assembled Rejection
told x n = Err (record { cause = x; card = n })

only_bad : (cs : List (List ℕ)) (r : Result Assembled Rejection) → From fresh 0 cs r → (x : Cause) (k : ℕ) → FirstBad fresh cs x k → r ≡ told x (suc k)
only_bad cs (Ok a) f x k b = absurd (f.0 x k b.bad)
only_bad cs (Err p) (inl f) x k b =
    let q = one_first cs p.cause x f.0 k f.2 b in
    let n : p.card ≡ suc k = omega (arith, f.1, q.1) in
    ap (λ (y : Cause). told y p.card) q.0 ∙ ap (told x) n
only_bad cs (Err p) (inr f) x k b = let P : List (List ℕ) → Type 0 = λ v. FirstBad fresh v x k in absurd (subst P f.0 b).bad.3

as_judged : (cs : List (List ℕ)) (r : Result Assembled Rejection) → From fresh 0 cs r → Judged cs r
as_judged cs (Ok a) f = (f.0, (f.1.0, f.1.1, omega (arith, f.1.2)))
as_judged cs (Err p) (inl f) = inl (f.0, omega (arith, f.1), f.2)
as_judged cs (Err p) (inr f) = inr f

pub rejections : (cs : List (List ℕ)) → Rejections cs (read_from fresh cs)
rejections cs =
    let f = judged fresh 0 cs refl in
    record { judged = as_judged cs (read_from fresh cs) f; first_bad = only_bad cs (read_from fresh cs) f; no_cards = λ e. ap (read_from fresh) e }
