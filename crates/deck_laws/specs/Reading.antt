-- The cards of a deck as they are read.
use Rattle.std.specs.Prelude.{◌≡◌, ℕ, zero, suc, true, false, List, [], ◌∷◌}
use Rattle.mixal.specs.Deck.{State, after_card, is_end}

-- card k, counted from 0, is c, read in the state t and followed by the cards rest: no card before it is END
abbrev pub Reads : State → List (List ℕ) → ℕ → State → List ℕ → List (List ℕ) → Type 0
Reads s [] k t c rest = ⊥
Reads s (d ∷ ds) zero t c rest = (t ≡ s) × (c ≡ d) × (rest ≡ ds)
Reads s (d ∷ ds) (suc k) t c rest = (is_end d ≡ false) × Reads (after_card s d) ds k t c rest

-- card k is END, and the first one
abbrev pub EndsAt : State → List (List ℕ) → ℕ → Type 0
EndsAt s cs k = (t : State) × (c : List ℕ) × (rest : List (List ℕ)) × Reads s cs k t c rest × (is_end c ≡ true)
