-- END as the last card of a deck.
use Rattle.std.proofs.Common.{◌≡◌, ℕ, suc, Bool, true, false, cond, eqb, List, [], ◌∷◌, length, Some, None, Ok, Err, Option, Result, sym, refl, ap, ◌∙◌, subst, arith}
use Rattle.card.specs.Lines.{cards_of, grown}
use Rattle.std.proofs.lemmas.Bool.{ne_eqb}
use Rattle.names.specs.declared.kinds.Operation.TheVariants.{End}
use Rattle.mixal.specs.declared.cause.Cause.{Cause}
use Rattle.mixal.specs.declared.cause.Refusal.{Refusal}
use Rattle.mixal.specs.declared.cause.Refusal.TheVariants.{Rejected, NoMemory}
use Rattle.mixal.specs.declared.cause.Rejection.{Rejection}
use Rattle.mixal.specs.declared.deck.Deck.{Deck}
use Rattle.mixal.specs.declared.sound_card.SoundCard.{SoundCard}
use Rattle.mixal.specs.Assembled.{unless_rejected, is_last, read_from}
use Rattle.mixal.specs.Causes.{cause_of, late_cause}
use Rattle.mixal.specs.Deck.{State, after_card, is_end}
use Rattle.mixal.specs.Ends.{Assembled, ended, at_end}
use Rattle.mixal.specs.Model.{Answers, assembled}
use Rattle.mixal.specs.Steps.{Steps, ended_if}

-- a good END card gives the deck
pub gives : (s t : State) (c : List ℕ) (d : Deck) → t ≡ at_end s c → late_cause false t.symbols t.here c End ≡ None → assembled d ≡ ended (length s.drafts) t c → Answers (Ok d) (ended_if s c)
gives s t c d e =
    let P : State → Type 0 = λ v. late_cause false v.symbols v.here c End ≡ None → assembled d ≡ ended (length s.drafts) v c → Answers (Ok d) (ended_if s c) in
    let Q : Option Cause → Type 0 = λ o. Answers (Ok d) (unless_rejected (suc (length s.drafts)) (Ok (ended (length s.drafts) (at_end s c) c)) o) in
    subst P (sym e) (λ h g. subst Q (sym h) g)

-- the deck ends there
pub reads : (last : Bool) (s t : State) (c : List ℕ) (cs : List (List ℕ)) (k : SoundCard) (r : Result Deck Refusal) → last ≡ is_last cs → Steps last s c t (Ok (Some k)) → Answers r (ended_if t k.text.now) → Answers r (read_from s (c ∷ cs))
reads last s t c cs card r l q a =
    let P : State → Type 0 = λ v. Answers r (ended_if v c) in
    let R : Result Assembled Rejection → Type 0 = λ v. Answers r v in
    let k = suc (length s.drafts) in
    let e = ap (λ (o : Option Cause). unless_rejected k (cond (is_end c) (Ok (ended (length s.drafts) (at_end s c) c)) (read_from (after_card s c) cs)) o) (q.1.cause (is_last cs))
    ∙ ap (λ (b : Bool). unless_rejected k (cond b (Ok (ended (length s.drafts) (at_end s c) c)) (read_from (after_card s c) cs)) (late_cause false (at_end s c).symbols (at_end s c).here c End)) q.0 in
    subst R (sym e) (subst P q.2 (subst (λ (d : List ℕ). Answers r (ended_if t d)) q.3 a))

-- a card that was taken: the deck goes on
pub taken : (last : Bool) (s t : State) (c : List ℕ) (cs : List (List ℕ)) → last ≡ is_last cs → Steps last s c t (Ok None) → read_from s (c ∷ cs) ≡ read_from t cs
taken last s t c cs l q =
    let k = suc (length s.drafts) in
    let end = Ok (ended (length s.drafts) (at_end s c) c) in
    ap (λ (b : Bool). unless_rejected k (cond (is_end c) end (read_from (after_card s c) cs)) (cause_of b s c)) (sym l)
    ∙ ap (unless_rejected k (cond (is_end c) end (read_from (after_card s c) cs))) q.1
    ∙ ap (λ (b : Bool). cond b end (read_from (after_card s c) cs)) q.0
    ∙ ap (λ (v : State). read_from v cs) (sym q.2)

-- a card that was rejected, or for which memory was wanting
pub refused : (last : Bool) (s t : State) (c : List ℕ) (cs : List (List ℕ)) (e : Refusal) → last ≡ is_last cs → Steps last s c t (Err e) → Answers (Err e) (read_from s (c ∷ cs))
refused last s t c cs (Rejected p) l q =
    let r = cond (is_end c) (Ok (ended (length s.drafts) (at_end s c) c)) (read_from (after_card s c) cs) in
    let R : Result Assembled Rejection → Type 0 = λ v. Answers (Err (Rejected p)) v in
    let e = ap (λ (b : Bool). unless_rejected (suc (length s.drafts)) r (cause_of b s c)) (sym l) ∙ ap (unless_rejected (suc (length s.drafts)) r) q.0 in
    subst R (sym e) (ap (λ (n : ℕ). record { cause = p.cause; card = n }) q.1)
refused last s t c cs NoMemory l q = tt

-- the last card of a text is the one that no byte follows
pub empty_is_last : (bs : List ℕ) → eqb (length bs) 0 ≡ is_last (cards_of bs)
empty_is_last [] = refl
empty_is_last (b ∷ bs) = ne_eqb (suc (length bs)) 0 (λ z. omega arith) ∙ sym (at (eqb b 10) (cards_of bs))
  where
    at : (t : Bool) (cs : List (List ℕ)) → is_last (cond t ([] ∷ cs) (grown b cs)) ≡ false
    at true cs = refl
    at false [] = refl
    at false (c ∷ cs) = refl
