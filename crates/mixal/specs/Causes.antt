-- The causes of rejection, one test for each number, of a card in its place.
use Rattle.std.specs.Prelude.{ℕ, ◌+◌, Bool, false, cond, not, ◌&&◌, ◌||◌, List, [], ◌∷◌, length, is_some, Some, None, Option, ◌==◌, nat_le, nat_lt}
use Rattle.card.specs.Text.{sound}
use Rattle.instructions.specs.Instructions.{is_address, address_undefined, assembled_word}
use Rattle.names.specs.Names.{operation_of}
use Rattle.names.specs.declared.kinds.Operation.{Operation}
use Rattle.names.specs.declared.kinds.Operation.TheVariants.{Machine, Equ, Orig, Con, Alf, End}
use Rattle.scan.specs.Columns.{is_remark, loc_of, gap_filled, op_of, address_of}
use Rattle.scan.specs.Symbols.{is_symbol}
use Rattle.symbols.specs.Symbols.{known_as, meaning_of}
use Rattle.symbols.specs.declared.meaning.Meaning.{Meaning}
use Rattle.table.specs.Keys.{name_same}
use Rattle.table.specs.declared.name.Name.{Name}
use Rattle.word.specs.declared.word.Word.{Word}
use Rattle.wvalues.specs.Pieces.{is_plus, is_w_value, w_undefined_in, w_value_of}
use Rattle.mixal.specs.declared.cause.Cause.{Cause}
use Rattle.mixal.specs.declared.cause.Cause.TheVariants.{Text, Columns, DefinedTwice, Operation as NoOperation, Address, Undefined, Range, NoEnd, TooManySymbols}
use Rattle.mixal.specs.Deck.{State, loc_name, future_for, is_end}
use Rattle.mixal.specs.Ends.{is_awaited, at_end}

-- the number of each cause
abbrev pub number_of : Cause → ℕ
number_of Text = 1
number_of Columns = 2
number_of DefinedTwice = 3
number_of NoOperation = 4
number_of Address = 5
number_of Undefined = 6
number_of Range = 7
number_of NoEnd = 8
number_of TooManySymbols = 9

-- 1: it is over 600 cards, over 80 bytes, or has a byte without code
abbrev pub bad_text : State → List ℕ → Bool
bad_text s c = nat_le 600 (length s.drafts) || not (sound c)

-- 2: LOC is neither blank nor a symbol, or column 11 or 16 is filled
abbrev pub bad_columns : List ℕ → Bool
bad_columns c = not (length (loc_of c) == 0 || is_symbol (loc_of c)) || gap_filled c

-- 3: the symbol in LOC is defined already
abbrev pub is_known : List (Name × Meaning) → Option Name → Bool
is_known es None = false
is_known es (Some n) = is_some (known_as es n)

-- 5: the ADDRESS is not what the operation takes
abbrev pub unreadable : List ℕ → Operation → Bool
unreadable text (Machine i) = not (is_address text)
unreadable text Equ = not (is_w_value text)
unreadable text Orig = not (is_w_value text)
unreadable text Con = not (is_w_value text)
unreadable text Alf = false
unreadable text End = not (is_w_value text)

-- 6: it names a symbol that is not defined
abbrev pub undefined_for : List (Name × Meaning) → List ℕ → Operation → Bool
undefined_for es text (Machine i) = address_undefined es text
undefined_for es text Equ = w_undefined_in es text
undefined_for es text Orig = w_undefined_in es text
undefined_for es text Con = w_undefined_in es text
undefined_for es text Alf = false
undefined_for es text End = w_undefined_in es text

-- a location from 0 to 4000
abbrev pub is_location : Option Word → Bool
is_location None = false
is_location (Some w) = (is_plus w.sign || w.magnitude == 0) && nat_le w.magnitude 4000

-- a value that an A-part can take, for a symbol that is awaited
abbrev pub suits : Bool → Option Word → Bool
suits awaited None = false
suits awaited (Some w) = not awaited || nat_le w.magnitude 4095

abbrev pub loc_awaited : List (Name × Meaning) → Option Name → Bool
loc_awaited es None = false
loc_awaited es (Some n) = is_awaited (meaning_of es n)

-- 7: a value or the location is out of range; es and here are the symbols and the location as the ADDRESS is read
abbrev pub out_of_range : List (Name × Meaning) → ℕ → List ℕ → Operation → Bool
out_of_range es here c (Machine i) = nat_le 4000 here || not (is_some (assembled_word es here i.c i.f (address_of c)))
out_of_range es here c Equ = not (suits (loc_awaited es (loc_name c)) (w_value_of es here (address_of c)))
out_of_range es here c Orig = not (is_location (w_value_of es here (address_of c)))
out_of_range es here c Con = nat_le 4000 here || not (is_some (w_value_of es here (address_of c)))
out_of_range es here c Alf = nat_le 4000 here
out_of_range es here c End = nat_lt 4000 here || not (is_some (w_value_of es here (address_of c)))

-- 9: one symbol more than 500
abbrev pub is_new : List (Name × Meaning) → Option Name → ℕ
is_new es None = 0
is_new es (Some n) = cond (is_some (meaning_of es n)) 0 1

abbrev pub same_name : Option Name → Option Name → Bool
same_name None n = false
same_name (Some m) None = false
same_name (Some m) (Some n) = name_same m n

abbrev pub too_many : List (Name × Meaning) → Option Name → Option Name → Bool
too_many es loc future = nat_lt 500 (length es + is_new es loc + cond (same_name loc future) 0 (is_new es future))

-- the state in which a card's ADDRESS is read: before END each symbol that no card defines is supplied
abbrev pub ready_for : State → List ℕ → Operation → State
ready_for s c (Machine i) = s
ready_for s c Equ = s
ready_for s c Orig = s
ready_for s c Con = s
ready_for s c Alf = s
ready_for s c End = at_end s c

-- a test of the card's operation, where it has one
abbrev pub on_operation : (Operation → Bool) → Option Operation → Bool
on_operation test None = false
on_operation test (Some o) = test o

-- 8: the card is the last, and not END
abbrev pub misses_end : Bool → Bool → Bool
misses_end last end = cond end false last

-- whether a cause holds of a card that is read in a state; of a remark only the first and the eighth can.
-- last says that no card follows
abbrev pub holds : Bool → Cause → State → List ℕ → Bool
holds last Text s c = bad_text s c
holds last Columns s c = not (is_remark c) && bad_columns c
holds last DefinedTwice s c = not (is_remark c) && is_known s.symbols (loc_name c)
holds last NoOperation s c = not (is_remark c) && not (is_some (operation_of (op_of c)))
holds last Address s c = not (is_remark c) && on_operation (unreadable (address_of c)) (operation_of (op_of c))
holds last Undefined s c = not (is_remark c) && on_operation (λ o. undefined_for (ready_for s c o).symbols (address_of c) o) (operation_of (op_of c))
holds last Range s c = not (is_remark c) && on_operation (λ o. out_of_range (ready_for s c o).symbols (ready_for s c o).here c o) (operation_of (op_of c))
holds last NoEnd s c = misses_end last (is_end c)
holds last TooManySymbols s c =
    not (is_remark c) && on_operation (λ o. too_many (ready_for s c o).symbols (loc_name c) (future_for s.symbols (address_of c) o)) (operation_of (op_of c))

-- the first of some causes that holds
abbrev pub first_of : List Cause → Bool → State → List ℕ → Option Cause
first_of [] last s c = None
first_of (x ∷ xs) last s c = cond (holds last x s c) (Some x) (first_of xs last s c)

-- all causes, in the order of their numbers
abbrev pub all_causes : List Cause
all_causes = Text ∷ Columns ∷ DefinedTwice ∷ NoOperation ∷ Address ∷ Undefined ∷ Range ∷ NoEnd ∷ TooManySymbols ∷ []

-- the cause for which a card is rejected: the one with the smallest number
abbrev pub cause_of : Bool → State → List ℕ → Option Cause
cause_of last s c = first_of all_causes last s c

-- the smallest of the causes from 6 on that holds; missing says that the card is the last and not END,
-- es and here are the symbols and the location as the ADDRESS is read
abbrev pub late_cause : Bool → List (Name × Meaning) → ℕ → List ℕ → Operation → Option Cause
late_cause missing es here c o =
    cond (undefined_for es (address_of c) o) (Some Undefined)
    (cond (out_of_range es here c o) (Some Range)
    (cond missing (Some NoEnd) (cond (too_many es (loc_name c) (future_for es (address_of c) o)) (Some TooManySymbols) None)))
