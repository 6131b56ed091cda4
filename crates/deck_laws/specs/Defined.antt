-- Symbols: each has one definition, and an A-part that is one symbol carries its value.
use Rattle.std.specs.Prelude.{◌≡◌, ℕ, false, List, Some, None, slice_index_or}
use Rattle.eval.specs.Eval.{as_number}
use Rattle.mixal.specs.Causes.{ready_for}
use Rattle.mixal.specs.Deck.{State, fresh, loc_name, loc_word, a_part}
use Rattle.mixal.specs.Ends.{Assembled}
use Rattle.mixal.specs.declared.line.Line.{Line}
use Rattle.names.specs.Names.{operation_of}
use Rattle.names.specs.declared.kinds.Instruction.{Instruction}
use Rattle.names.specs.declared.kinds.Operation.{Operation}
use Rattle.names.specs.declared.kinds.Operation.TheVariants.{Machine}
use Rattle.scan.specs.Columns.{is_remark, op_of, address_of}
use Rattle.scan.specs.Symbols.{name_of}
use Rattle.symbols.specs.Symbols.{known_as}
use Rattle.table.specs.declared.name.Name.{Name}
use Rattle.word.specs.Field.{read_bytes}
use Rattle.word.specs.Word.{word_from, bytes_of}
use Rattle.word.specs.declared.word.Word.{Word}
use Rattle.deck_laws.specs.Reading.{Reads}

-- the address in an instruction's word: its sign and its bytes 1 and 2
abbrev pub address_in : Word → Word
address_in w = word_from w.sign (read_bytes 0 2 (bytes_of w))

-- an instruction at a line whose address is the value of a symbol
pub record Carries (a : Assembled) (k : ℕ) (n : Name) : Type 0 where
  pub value : Word
  pub known : known_as a.symbols n ≡ Some value
  pub location : ℕ
  pub word : Word
  pub line : (d : Line) → (slice_index_or a.lines k d).at ≡ Some (location, word)
  pub address : address_in word ≡ as_number value

-- the symbols of a deck that was assembled from the cards cs
pub record Defined (cs : List (List ℕ)) (a : Assembled) : Type 0 where
  -- the symbol in a card's LOC was not defined before it, and means in the end what that card says
  pub once : (k : ℕ) (t : State) (c : List ℕ) (rest : List (List ℕ)) (o : Operation) (n : Name) → Reads fresh cs k t c rest → is_remark c ≡ false → operation_of (op_of c) ≡ Some o → loc_name c ≡ Some n → (known_as t.symbols n ≡ None) × (known_as a.symbols n ≡ Some (loc_word (ready_for t c o) c o))
  -- an A-part that is one symbol carries the symbol's value, wherever it was defined
  pub carried : (k : ℕ) (t : State) (c : List ℕ) (rest : List (List ℕ)) (i : Instruction) (codes : List ℕ) → Reads fresh cs k t c rest → is_remark c ≡ false → operation_of (op_of c) ≡ Some (Machine i) → name_of (a_part (address_of c)) ≡ Some codes → Carries a k (record { codes = codes })
