-- END: words for the symbols that no card defines, and the deck that comes out.
use Rattle.std.specs.Prelude.{ℕ, suc, ◌%◌, Bool, false, cond, not, ◌&&◌, List, [], ◌∷◌, ◌++◌, map, replicate, is_some, Some, None, Option}
use Rattle.card.specs.Text.{padded}
use Rattle.eval.specs.Eval.{as_number}
use Rattle.symbols.specs.Symbols.{meaning_of, word_in, known_as}
use Rattle.symbols.specs.declared.meaning.Meaning.{Meaning}
use Rattle.symbols.specs.declared.meaning.Meaning.TheVariants.{Defined}
use Rattle.table.specs.Keys.{name_before, name_same}
use Rattle.table.specs.Pairs.{put}
use Rattle.table.specs.declared.name.Name.{Name}
use Rattle.word.specs.declared.sign.Sign.TheVariants.{Plus}
use Rattle.word.specs.declared.word.Word.{Word}
use Rattle.word.specs.Field.{stored_at}
use Rattle.word.specs.Word.{word_of}
use Rattle.mixal.specs.declared.draft.Draft.{Draft}
use Rattle.mixal.specs.declared.draft.Made.{Made}
use Rattle.mixal.specs.declared.line.Line.{Line}
use Rattle.mixal.specs.Deck.{State, zero, loc_name, w_value_on, defined, made_with}

-- whether a name has appeared and waits to be defined
abbrev pub is_awaited : Option Meaning → Bool
is_awaited None = false
is_awaited (Some m) = not (is_some (word_in m))

-- whether a name is the symbol in LOC
abbrev pub in_loc : Option Name → Name → Bool
in_loc None n = false
in_loc (Some m) n = name_same m n

-- whether a name waits at END, but for the one that END's LOC defines
abbrev pub waits : List (Name × Meaning) → Option Name → Name → Bool
waits es loc n = is_awaited (meaning_of es n) && not (in_loc loc n)

-- no card
abbrev pub blank : List ℕ
blank = replicate 80 32

-- one name supplied: it is the location, where a word +0 is assembled
abbrev pub supplied_one : State → Name → State
supplied_one s n =
    record {
      here = suc s.here;
      symbols = put name_before name_same s.symbols n (Defined (word_of Plus s.here));
      awaited = s.awaited;
      drafts = s.drafts ++ (record { card = blank; made = made_with s.here zero None } ∷ []);
    }

-- a name supplied if it waits
abbrev pub supplied_if : Option Name → State → Name → State
supplied_if loc s n = cond (waits s.symbols loc n) (supplied_one s n) s

-- each name that waits is supplied, in the order of first appearance
abbrev pub supplied : Option Name → List Name → State → State
supplied loc [] s = s
supplied loc (n ∷ ns) s = supplied loc ns (supplied_if loc s n)

-- the state in which END's ADDRESS is read
abbrev pub at_end : State → List ℕ → State
at_end s c = supplied (loc_name c) s.awaited s

-- a word whose address waited for a symbol, once that is defined
abbrev pub addressed : Option Word → Word → Word
addressed None w = w
addressed (Some v) w = stored_at 0 2 (as_number v) w

-- a word with the value of the symbol that it waits for, if it waits for one
abbrev pub settled : List (Name × Meaning) → Option Name → Word → Word
settled es None w = w
settled es (Some n) w = addressed (known_as es n) w

-- what a draft comes to, with its location
abbrev pub placed : List (Name × Meaning) → Option Made → Option (ℕ × Word)
placed es None = None
placed es (Some m) = Some (m.location, settled es m.awaits m.word)

abbrev pub resolved : List (Name × Meaning) → Draft → Line
resolved es d = record { at = placed es d.made; card = d.card }

-- a deck assembled: its symbols, the lines of its listing, where it starts, and how many cards it has
pub record Assembled : Type 0 where
  pub symbols : List (Name × Meaning)
  pub lines : List Line
  pub start : ℕ
  pub cards : ℕ

-- the symbols in the end: END's LOC is the location
abbrev pub symbols_at_end : State → List ℕ → List (Name × Meaning)
symbols_at_end s c = defined s.symbols (loc_name c) (word_of Plus s.here)

-- a good END card; s is the state in which its ADDRESS is read, and n the number of cards before it
abbrev pub ended : ℕ → State → List ℕ → Assembled
ended n s c =
    record {
      symbols = symbols_at_end s c;
      lines = map (resolved (symbols_at_end s c)) s.drafts ++ (record { at = None; card = padded c } ∷ []);
      start = (w_value_on s c).magnitude % 4096;
      cards = suc n;
    }
