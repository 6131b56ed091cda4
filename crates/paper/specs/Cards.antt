-- The front of a text of cards.
use Rattle.std.specs.Prelude.{◌≡◌, ℕ, List, ◌++◌, take, drop}
use Rattle.card.specs.Lines.{cards_of}

-- xs and ys are the text, cut after its first n cards
pub record CutAfter (n : ℕ) (text xs ys : List ℕ) : Type 0 where
  pub whole : text ≡ xs ++ ys
  pub first : cards_of xs ≡ take n (cards_of text)
  pub others : cards_of ys ≡ drop n (cards_of text)
