-- What a card reader holds.
use Rattle.std.specs.Prelude.{ℕ, cond, ◌&&◌, List, map, length, Some, None, Option, ◌==◌, nat_le}
use Rattle.card.specs.Lines.{cards_of}
use Rattle.card.specs.Text.{card_of}
use Rattle.rack.specs.Units.{Holding, Holdings}
use Rattle.rack.specs.declared.standing.Ring.TheVariants.{In}
use Rattle.word.specs.declared.word.Word.{Word}

-- the blocks of a text: the words of its cards, or that they are damaged
abbrev pub card_blocks : List ℕ → List (Option (List Word))
card_blocks text = map card_of (cards_of text)

-- a reader of a text: room for c blocks, standing at block p
abbrev pub cards_held : ℕ → List ℕ → ℕ → Holding
cards_held c text p = record { capacity = c; blocks = card_blocks text; position = p; ring = In }

-- a new reader, if the rules allow it
unfoldable pub cards_loaded : ℕ → List ℕ → Option Holding
cards_loaded c text = cond (nat_le c 1000 && nat_le (length (cards_of text)) c) (Some (cards_held c text 0)) None

-- a rack with no units, and one with one
abbrev pub nowhere : Holdings
nowhere = λ _. None

abbrev pub alone : ℕ → Option Holding → Holdings
alone u h v = cond (v == u) h None
