-- When a deck is rejected, and with what.
use Rattle.std.specs.Prelude.{◌≡◌, ℕ, suc, ◌<◌, true, ◌⊎◌, List, [], Ok, Err, Result}
use Rattle.mixal.specs.Assembled.{is_last}
use Rattle.mixal.specs.Causes.{holds, number_of}
use Rattle.mixal.specs.Deck.{State, fresh}
use Rattle.mixal.specs.Ends.{Assembled}
use Rattle.mixal.specs.declared.cause.Cause.{Cause}
use Rattle.mixal.specs.declared.cause.Cause.TheVariants.{NoEnd}
use Rattle.mixal.specs.declared.cause.Rejection.{Rejection}
use Rattle.deck_laws.specs.Reading.{Reads, EndsAt}

-- cause x holds of card k, counted from 0
abbrev pub Bad : Cause → State → List (List ℕ) → ℕ → Type 0
Bad x s cs k = (t : State) × (c : List ℕ) × (rest : List (List ℕ)) × Reads s cs k t c rest × (holds (is_last rest) x t c ≡ true)

-- no cause holds of any card
abbrev pub Good : State → List (List ℕ) → Type 0
Good s cs = (x : Cause) (k : ℕ) → Bad x s cs k → ⊥

-- card k is the first of which some cause holds, and x is the one with the smallest number
pub record FirstBad (s : State) (cs : List (List ℕ)) (x : Cause) (k : ℕ) : Type 0 where
  pub bad : Bad x s cs k
  pub smallest : (y : Cause) → number_of y < number_of x → Bad y s cs k → ⊥
  pub earliest : (y : Cause) (j : ℕ) → j < k → Bad y s cs j → ⊥

-- what the answer says of the deck: all cards up to END are good; or which card is the first bad one, and
-- why; or there are no cards
abbrev pub Judged : List (List ℕ) → Result Assembled Rejection → Type 0
Judged cs (Ok a) = Good fresh cs × ((k : ℕ) × EndsAt fresh cs k × (a.cards ≡ suc k))
Judged cs (Err p) =
    ((k : ℕ) × (p.card ≡ suc k) × FirstBad fresh cs p.cause k)
    ⊎ ((cs ≡ []) × (p ≡ record { cause = NoEnd; card = 0 }))

-- a deck is rejected just so: with its first bad card, and on it the smallest number
pub record Rejections (cs : List (List ℕ)) (r : Result Assembled Rejection) : Type 0 where
  pub judged : Judged cs r
  pub first_bad : (x : Cause) (k : ℕ) → FirstBad fresh cs x k → r ≡ Err (record { cause = x; card = suc k })
  pub no_cards : cs ≡ [] → r ≡ Err (record { cause = NoEnd; card = 0 })
