-- What is promised of the answer to a deck's text, beside which answer it is.
use Rattle.std.specs.Prelude.{ℕ, List, IfOk, Result}
use Rattle.card.specs.Lines.{cards_of}
use Rattle.mixal.specs.Assembled.{deck_of}
use Rattle.mixal.specs.Model.{assembled}
use Rattle.mixal.specs.declared.deck.Deck.{Deck}
use Rattle.deck_laws.specs.After.{AfterEnd}
use Rattle.deck_laws.specs.Defined.{Defined}
use Rattle.deck_laws.specs.Rejections.{Rejections}
use Rattle.deck_laws.specs.Words.{Words}

-- the laws of decks, whatever an answer tells in place of a deck
pub record Lawful {E : Type 0} (text : List ℕ) (r : Result Deck E) : Type 0 where
  -- the first bad card is told, and on it the smallest number
  pub rejections : Rejections (cards_of text) (deck_of text)
  -- the lines are those of the cards, with the words assembled
  pub words : IfOk r (λ d. Words (cards_of text) (assembled d))
  -- each symbol has one definition, and an A-part that is one symbol carries its value
  pub symbols : IfOk r (λ d. Defined (cards_of text) (assembled d))
  -- what follows END changes nothing
  pub rest : AfterEnd text
