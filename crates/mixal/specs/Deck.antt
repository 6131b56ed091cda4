-- A deck as it is read: the state before each card, and what a good card does.
use Rattle.std.specs.Prelude.{ℕ, suc, Bool, true, false, cond, List, [], ◌∷◌, ◌++◌, is_some, Some, None, Option}
use Rattle.card.specs.Text.{text_word, padded}
use Rattle.instructions.specs.Instructions.{future_of, assembled_word}
use Rattle.names.specs.Names.{operation_of}
use Rattle.names.specs.declared.kinds.Operation.{Operation}
use Rattle.names.specs.declared.kinds.Operation.TheVariants.{Machine, Equ, Orig, Con, Alf, End}
use Rattle.scan.specs.Address.{parts_of}
use Rattle.scan.specs.Columns.{is_remark, loc_of, op_of, alf_of, address_of}
use Rattle.scan.specs.Symbols.{name_of}
use Rattle.std.specs.Option.{option_map, unwrap_or}
use Rattle.symbols.specs.Symbols.{meaning_of}
use Rattle.symbols.specs.declared.meaning.Meaning.{Meaning}
use Rattle.symbols.specs.declared.meaning.Meaning.TheVariants.{Defined, Awaited}
use Rattle.table.specs.Keys.{name_before, name_same}
use Rattle.table.specs.Pairs.{put}
use Rattle.table.specs.declared.name.Name.{Name}
use Rattle.word.specs.declared.sign.Sign.TheVariants.{Plus}
use Rattle.word.specs.declared.word.Word.{Word}
use Rattle.word.specs.Word.{word_of}
use Rattle.wvalues.specs.Pieces.{w_value_of}
use Rattle.mixal.specs.declared.draft.Draft.{Draft}
use Rattle.mixal.specs.declared.draft.Made.{Made}

-- the state of the assembler: the location, the symbols, the names awaited in the order of their first
-- appearance, and a draft for each card so far
pub record State : Type 0 where
  pub here : ℕ
  pub symbols : List (Name × Meaning)
  pub awaited : List Name
  pub drafts : List Draft

abbrev pub state_of : ℕ → List (Name × Meaning) → List Name → List Draft → State
state_of here es ns ds = record { here = here; symbols = es; awaited = ns; drafts = ds }

-- before the first card
abbrev pub fresh : State
fresh = state_of 0 [] [] []

abbrev pub zero : Word
zero = word_of Plus 0

-- the symbol in LOC, if there is one
abbrev pub loc_name : List ℕ → Option Name
loc_name c = option_map (λ codes. record { codes = codes }) (name_of (loc_of c))

-- the A-part of an ADDRESS
abbrev pub a_part : List ℕ → List ℕ
a_part text = unwrap_or (option_map (λ p. p.0) (parts_of text)) []

-- the future symbol of an instruction's ADDRESS: its A-part, where that is one symbol not yet defined
abbrev pub future_name : List (Name × Meaning) → List ℕ → Option Name
future_name es text = option_map (λ codes. record { codes = codes }) (future_of es (a_part text))

abbrev pub future_for : List (Name × Meaning) → List ℕ → Operation → Option Name
future_for es text (Machine i) = future_name es text
future_for es text Equ = None
future_for es text Orig = None
future_for es text Con = None
future_for es text Alf = None
future_for es text End = None

-- the W-value of a card's ADDRESS, where it has one
abbrev pub w_value_on : State → List ℕ → Word
w_value_on s c = unwrap_or (w_value_of s.symbols s.here (address_of c)) zero

-- a word at a location, which may wait for a symbol
abbrev pub made_with : ℕ → Word → Option Name → Option Made
made_with here w o = Some (record { location = here; word = w; awaits = o })

-- what a card assembles
abbrev pub made_on : State → List ℕ → Operation → Option Made
made_on s c (Machine i) =
    made_with s.here (unwrap_or (assembled_word s.symbols s.here i.c i.f (address_of c)) zero) (future_name s.symbols (address_of c))
made_on s c Equ = None
made_on s c Orig = None
made_on s c Con = made_with s.here (w_value_on s c) None
made_on s c Alf = made_with s.here (unwrap_or (text_word (alf_of c)) zero) None
made_on s c End = None

-- the location after a card
abbrev pub here_after : State → List ℕ → Operation → ℕ
here_after s c (Machine i) = suc s.here
here_after s c Equ = s.here
here_after s c Orig = (w_value_on s c).magnitude
here_after s c Con = suc s.here
here_after s c Alf = suc s.here
here_after s c End = s.here

-- what LOC is defined by: the location, with EQU the W-value
abbrev pub loc_word : State → List ℕ → Operation → Word
loc_word s c (Machine i) = word_of Plus s.here
loc_word s c Equ = w_value_on s c
loc_word s c Orig = word_of Plus s.here
loc_word s c Con = word_of Plus s.here
loc_word s c Alf = word_of Plus s.here
loc_word s c End = word_of Plus s.here

-- the symbols after one was defined, if there is one to define
abbrev pub defined : List (Name × Meaning) → Option Name → Word → List (Name × Meaning)
defined es None w = es
defined es (Some n) w = put name_before name_same es n (Defined w)

-- the symbols after a future one was named: it is awaited, unless it is so already
abbrev pub named_in : List (Name × Meaning) → Option Name → List (Name × Meaning)
named_in es None = es
named_in es (Some n) = cond (is_some (meaning_of es n)) es (put name_before name_same es n Awaited)

-- and the names awaited
abbrev pub awaited_after : List (Name × Meaning) → List Name → Option Name → List Name
awaited_after es ns None = ns
awaited_after es ns (Some n) = cond (is_some (meaning_of es n)) ns (ns ++ (n ∷ []))

-- one draft more
abbrev pub drafted : State → List ℕ → Option Made → List Draft
drafted s c m = s.drafts ++ (record { card = padded c; made = m } ∷ [])

-- a good card whose operation is known
abbrev pub after_operation : State → List ℕ → Operation → State
after_operation s c o =
    record {
      here = here_after s c o;
      symbols = defined (named_in s.symbols (future_for s.symbols (address_of c) o)) (loc_name c) (loc_word s c o);
      awaited = awaited_after s.symbols s.awaited (future_for s.symbols (address_of c) o);
      drafts = drafted s c (made_on s c o);
    }

-- a remark card
abbrev pub after_remark : State → List ℕ → State
after_remark s c = record { here = s.here; symbols = s.symbols; awaited = s.awaited; drafts = drafted s c None }

abbrev pub after_named : State → List ℕ → Option Operation → State
after_named s c None = s
after_named s c (Some o) = after_operation s c o

-- what a good card does, unless it is END
abbrev pub after_card : State → List ℕ → State
after_card s c = cond (is_remark c) (after_remark s c) (after_named s c (operation_of (op_of c)))

-- whether an operation is END
abbrev pub is_end_of : Option Operation → Bool
is_end_of None = false
is_end_of (Some (Machine i)) = false
is_end_of (Some Equ) = false
is_end_of (Some Orig) = false
is_end_of (Some Con) = false
is_end_of (Some Alf) = false
is_end_of (Some End) = true

-- whether a card is END
abbrev pub is_end : List ℕ → Bool
is_end c = cond (is_remark c) false (is_end_of (operation_of (op_of c)))
