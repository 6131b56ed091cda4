-- A whole deck: assembled, or rejected with its cause and card.
use Rattle.std.specs.Prelude.{ℕ, suc, Bool, true, false, cond, List, [], ◌∷◌, length, Some, None, Ok, Err, Option, Result}
use Rattle.card.specs.Lines.{cards_of}
use Rattle.mixal.specs.declared.cause.Cause.{Cause}
use Rattle.mixal.specs.declared.cause.Cause.TheVariants.{NoEnd}
use Rattle.mixal.specs.declared.cause.Rejection.{Rejection}
use Rattle.mixal.specs.Causes.{cause_of}
use Rattle.mixal.specs.Deck.{State, fresh, after_card, is_end}
use Rattle.mixal.specs.Ends.{Assembled, ended, at_end}

-- going on with the deck unless the card in hand, the k-th, is rejected
abbrev pub unless_rejected : ℕ → Result Assembled Rejection → Option Cause → Result Assembled Rejection
unless_rejected k r None = r
unless_rejected k r (Some x) = Err (record { cause = x; card = k })

-- whether no card follows
abbrev pub is_last : List (List ℕ) → Bool
is_last [] = true
is_last (c ∷ cs) = false

-- the deck from a state on, up to its END; a deck without cards has none
abbrev pub read_from : State → List (List ℕ) → Result Assembled Rejection
read_from s [] = Err (record { cause = NoEnd; card = length s.drafts })
read_from s (c ∷ cs) =
    unless_rejected (suc (length s.drafts))
    (cond (is_end c) (Ok (ended (length s.drafts) (at_end s c) c)) (read_from (after_card s c) cs))
    (cause_of (is_last cs) s c)

-- a deck's text
abbrev pub deck_of : List ℕ → Result Assembled Rejection
deck_of text = read_from fresh (cards_of text)
