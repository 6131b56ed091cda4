-- The listing of a deck and the lines of its symbols.
use Rattle.std.specs.Prelude.{◌≡◌, ℕ, ◌<◌, List, [], ◌++◌, length, drop, Some, None, Ok, Err, Option, Result}
use Rattle.lines.specs.Lines.{listed, symbol_line}
use Rattle.mixal.specs.declared.line.Line.{Line}
use Rattle.std.specs.List.{flat_map}
use Rattle.symbols.specs.Symbols.{word_in}
use Rattle.symbols.specs.declared.meaning.Meaning.{Meaning}
use Rattle.table.specs.declared.name.Name.{Name}
use Rattle.word.specs.declared.word.Word.{Word}
use Rattle.listing.specs.declared.refusal.TextRefusal.{TextRefusal}
use Rattle.listing.specs.declared.refusal.TextRefusal.TheVariants.{TooLong, NoMemory}

-- a line of the listing: location and word if any, then the card if any
abbrev pub line_text : Line → List ℕ
line_text x = listed x.at x.card

-- the listing: the lines one after the other
abbrev pub listing_of : List Line → List ℕ
listing_of xs = flat_map line_text xs

-- the line of a symbol, once it is defined
abbrev pub defined_text : Name → Option Word → List ℕ
defined_text n None = []
defined_text n (Some w) = symbol_line n.codes w

abbrev pub entry_text : Name × Meaning → List ℕ
entry_text p = defined_text p.0 (word_in p.1)

abbrev pub symbol_lines_of : List (Name × Meaning) → List ℕ
symbol_lines_of es = flat_map entry_text es

-- the text stands at the buffer's front and its length is told, what follows it stays; or it is longer than
-- the buffer, or memory is wanting, and the buffer stays as it was
abbrev pub Written : List ℕ → List ℕ → List ℕ → Result ℕ TextRefusal → Type 0
Written text old new (Ok n) = (n ≡ length text) × (new ≡ text ++ drop n old)
Written text old new (Err (TooLong e)) = (e.length ≡ length text) × (length old < length text) × (new ≡ old)
Written text old new (Err NoMemory) = new ≡ old
