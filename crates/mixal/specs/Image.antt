-- The words of a deck by location.
use Rattle.std.specs.Prelude.{ℕ, cond, List, [], ◌∷◌, Some, None, Option, ◌==◌}
use Rattle.std.specs.Option.{option_or}
use Rattle.table.specs.Keys.{location_before, location_same}
use Rattle.table.specs.Pairs.{put}
use Rattle.table.specs.declared.location.Location.{Location}
use Rattle.word.specs.declared.word.Word.{Word}
use Rattle.mixal.specs.declared.line.Line.{Line}

-- a word put at its location, if there is one
abbrev pub with_placed : List (Location × Word) → Option (ℕ × Word) → List (Location × Word)
with_placed ps None = ps
with_placed ps (Some p) = put location_before location_same ps (record { 0 = p.0 }) p.1

-- the words of the lines put one after the other
abbrev pub image_from : List (Location × Word) → List Line → List (Location × Word)
image_from ps [] = ps
image_from ps (x ∷ xs) = image_from (with_placed ps x.at) xs

abbrev pub image_of : List Line → List (Location × Word)
image_of xs = image_from [] xs

-- the word that a line puts at a location
abbrev pub word_at : ℕ → Option (ℕ × Word) → Option Word
word_at l None = None
word_at l (Some p) = cond (p.0 == l) (Some p.1) None

-- the word of the last line that has one for a location
abbrev pub last_at : ℕ → List Line → Option Word
last_at l [] = None
last_at l (x ∷ xs) = option_or (last_at l xs) (word_at l x.at)
