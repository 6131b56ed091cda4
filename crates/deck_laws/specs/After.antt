-- What follows END changes nothing.
use Rattle.std.specs.Prelude.{◌≡◌, ℕ, List, ◌∷◌, ◌++◌, Ok}
use Rattle.mixal.specs.Assembled.{deck_of}
use Rattle.mixal.specs.Ends.{Assembled}

-- a text that is a deck is the same deck with anything after the end of its last line
abbrev pub AfterEnd : List ℕ → Type 0
AfterEnd text = (a : Assembled) (more : List ℕ) → deck_of text ≡ Ok a → deck_of (text ++ 10 ∷ more) ≡ Ok a
