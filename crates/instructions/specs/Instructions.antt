-- The ADDRESS of an instruction: A-part, index and F, and the word that they make with C.
use Rattle.std.specs.Prelude.{ℕ, ◌+◌, ◌*◌, Bool, false, cond, ◌&&◌, ◌||◌, List, length, is_some, Some, None, Option, ◌==◌, nat_le}
use Rattle.eval.specs.Eval.{value_of, undefined_in}
use Rattle.scan.specs.Address.{parts_of}
use Rattle.scan.specs.Symbols.{name_of}
use Rattle.scan.specs.Terms.{terms_of}
use Rattle.std.specs.Option.{option_map, option_and_then}
use Rattle.symbols.specs.Symbols.{known_as}
use Rattle.symbols.specs.declared.meaning.Meaning.{Meaning}
use Rattle.table.specs.declared.name.Name.{Name}
use Rattle.word.specs.declared.sign.Sign.TheVariants.{Plus}
use Rattle.word.specs.declared.word.Word.{Word}
use Rattle.word.specs.Word.{word_of}
use Rattle.wvalues.specs.Pieces.{is_plus, brackets_readable, brackets_undefined}

-- whether an A-part is missing or an expression
abbrev pub a_readable : List ℕ → Bool
a_readable a = length a == 0 || is_some (terms_of a)

-- whether the parts that are there are expressions
abbrev pub parts_readable : Option (List ℕ × Option (List ℕ) × Option (List ℕ)) → Bool
parts_readable None = false
parts_readable (Some p) = a_readable p.0 && (brackets_readable p.1 && brackets_readable p.2)

-- whether a text is the ADDRESS of an instruction
abbrev pub is_address : List ℕ → Bool
is_address text = parts_readable (parts_of text)

-- a name, unless it is defined
abbrev pub unless_known : List (Name × Meaning) → List ℕ → Option (List ℕ)
unless_known es codes = cond (is_some (known_as es (record { codes = codes }))) None (Some codes)

-- the symbol that an A-part is, where it is one symbol that is not defined
abbrev pub future_of : List (Name × Meaning) → List ℕ → Option (List ℕ)
future_of es a = option_and_then (unless_known es) (name_of a)

-- whether an A-part names a symbol that is not defined, and is more than that symbol
abbrev pub a_undefined : List (Name × Meaning) → List ℕ → Bool
a_undefined es a = cond (is_some (future_of es a)) false (undefined_in es a)

-- whether a part names a symbol that is not defined
abbrev pub parts_undefined : List (Name × Meaning) → Option (List ℕ × Option (List ℕ) × Option (List ℕ)) → Bool
parts_undefined es None = false
parts_undefined es (Some p) = a_undefined es p.0 || (brackets_undefined es p.1 || brackets_undefined es p.2)

abbrev pub address_undefined : List (Name × Meaning) → List ℕ → Bool
address_undefined es text = parts_undefined es (parts_of text)

-- a value of a magnitude up to 4,095
abbrev pub as_address : Word → Option Word
as_address w = cond (nat_le w.magnitude 4095) (Some w) None

-- the value of an A-part: zero where it is missing or a future symbol
abbrev pub a_word : List (Name × Meaning) → ℕ → List ℕ → Option Word
a_word es here a =
    cond (length a == 0 || is_some (future_of es a)) (Some (word_of Plus 0)) (option_and_then as_address (value_of es here a))

-- a value from 0 to a bound
abbrev pub up_to_bound : ℕ → Word → Option ℕ
up_to_bound n w = cond (is_plus w.sign && nat_le w.magnitude n) (Some w.magnitude) None

-- the value of a part, or a default where it is missing
abbrev pub part_number : List (Name × Meaning) → ℕ → ℕ → ℕ → Option (List ℕ) → Option ℕ
part_number es here n missing None = Some missing
part_number es here n missing (Some text) = option_and_then (up_to_bound n) (value_of es here text)

-- the word of an instruction: sign and bytes 1 and 2 are the address, then the index, F and C
abbrev pub instruction_word : Word → ℕ → ℕ → ℕ → Word
instruction_word a i f c = word_of a.sign (a.magnitude * 262144 + i * 4096 + f * 64 + c)

-- the word of the parts; none where one is out of range
abbrev pub word_of_parts : List (Name × Meaning) → ℕ → ℕ → ℕ → Option (List ℕ × Option (List ℕ) × Option (List ℕ)) → Option Word
word_of_parts es here c missing None = None
word_of_parts es here c missing (Some p) =
    option_and_then (λ a. option_and_then (λ i. option_map (λ f. instruction_word a i f c) (part_number es here 63 missing p.2)) (part_number es here 6 0 p.1))
    (a_word es here p.0)

-- the word of an ADDRESS with C and the F that it may leave out
abbrev pub assembled_word : List (Name × Meaning) → ℕ → ℕ → ℕ → List ℕ → Option Word
assembled_word es here c missing text = word_of_parts es here c missing (parts_of text)
