-- Symbols: the list of names with their meanings, in the order of the names.
use Rattle.std.specs.Prelude.{List, Some, None, Option}
use Rattle.std.specs.Option.{option_and_then}
use Rattle.symbols.specs.declared.meaning.Meaning.{Meaning}
use Rattle.symbols.specs.declared.meaning.Meaning.TheVariants.{Defined, Awaited}
use Rattle.symbols.specs.declared.symbols.Symbols.{Symbols}
use Rattle.table.specs.Keys.{name_same}
use Rattle.table.specs.Pairs.{lookup}
use Rattle.table.specs.declared.name.Name.{Name}
use Rattle.word.specs.declared.word.Word.{Word}

-- the names and their meanings, first to last
abbrev pub entries : Symbols → List (Name × Meaning)
entries s = s.table

-- what a name means, if it has appeared
abbrev pub meaning_of : List (Name × Meaning) → Name → Option Meaning
meaning_of es n = lookup name_same es n

-- the word of a meaning, if it has one
abbrev pub word_in : Meaning → Option Word
word_in (Defined w) = Some w
word_in Awaited = None

-- the word that a symbol was defined by
abbrev pub known_as : List (Name × Meaning) → Name → Option Word
known_as es n = option_and_then word_in (meaning_of es n)
