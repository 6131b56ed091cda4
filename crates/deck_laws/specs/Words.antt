-- The words of the listing are the words assembled, card by card.
use Rattle.std.specs.Prelude.{◌≡◌, ℕ, ◌+◌, ◌-◌, ◌<◌, ◌≤◌, true, false, cond, List, length, Some, None, Option, slice_index_or}
use Rattle.card.specs.Text.{padded}
use Rattle.mixal.specs.Deck.{State, fresh, zero, made_on, is_end}
use Rattle.mixal.specs.Ends.{Assembled, blank, placed}
use Rattle.mixal.specs.declared.draft.Made.{Made}
use Rattle.mixal.specs.declared.line.Line.{Line}
use Rattle.names.specs.Names.{operation_of}
use Rattle.names.specs.declared.kinds.Operation.{Operation}
use Rattle.scan.specs.Columns.{is_remark, op_of}
use Rattle.deck_laws.specs.Reading.{Reads}

-- what a card assembles that is read in a state
abbrev pub made_named : State → List ℕ → Option Operation → Option Made
made_named s c None = None
made_named s c (Some o) = made_on s c o

abbrev pub made_by : State → List ℕ → Option Made
made_by s c = cond (is_remark c) None (made_named s c (operation_of (op_of c)))

-- the lines of a deck that was assembled from the cards cs
pub record Words (cs : List (List ℕ)) (a : Assembled) : Type 0 where
  -- card k, counted from 0, has line k, with what it assembles
  pub shown : (k : ℕ) (t : State) (c : List ℕ) (rest : List (List ℕ)) (d : Line) → Reads fresh cs k t c rest → is_end c ≡ false → slice_index_or a.lines k d ≡ record { at = placed a.symbols (made_by t c); card = padded c }
  -- END has the last line, and no word
  pub end : (k : ℕ) (t : State) (c : List ℕ) (rest : List (List ℕ)) (d : Line) → Reads fresh cs k t c rest → is_end c ≡ true → slice_index_or a.lines (length a.lines - 1) d ≡ record { at = None; card = padded c }
  -- what stands between them has no card, and a word +0
  pub added : (k : ℕ) (t : State) (c : List ℕ) (rest : List (List ℕ)) → Reads fresh cs k t c rest → is_end c ≡ true → (j : ℕ) (d : Line) → k ≤ j → j + 1 < length a.lines → (l : ℕ) × (slice_index_or a.lines j d ≡ record { at = Some (l, zero); card = blank })
