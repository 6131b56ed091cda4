-- W-values: pieces stored one after the other into a word that began as +0.
use Rattle.std.specs.Prelude.{ℕ, ◌/◌, ◌%◌, Bool, true, false, cond, ◌&&◌, ◌||◌, List, [], ◌∷◌, is_some, Some, None, Option}
use Rattle.eval.specs.Eval.{value_of, undefined_in}
use Rattle.scan.specs.Address.{pieces_of}
use Rattle.scan.specs.Terms.{terms_of}
use Rattle.std.specs.Option.{option_map, option_and_then}
use Rattle.symbols.specs.declared.meaning.Meaning.{Meaning}
use Rattle.table.specs.declared.name.Name.{Name}
use Rattle.word.specs.declared.sign.Sign.{Sign}
use Rattle.word.specs.declared.sign.Sign.TheVariants.{Plus, Minus}
use Rattle.word.specs.declared.word.Word.{Word}
use Rattle.word.specs.Field.{is_field, stored_at}
use Rattle.word.specs.Word.{word_of}

abbrev pub is_plus : Sign → Bool
is_plus Plus = true
is_plus Minus = false

-- the bytes that a field's code names; none where the value is no such code
abbrev pub bounds_of : Word → Option (ℕ × ℕ)
bounds_of w = cond (is_plus w.sign && is_field w.magnitude) (Some (w.magnitude / 8, w.magnitude % 8)) None

-- the bytes that brackets name, all of them and the sign where there are none
abbrev pub field_bounds : List (Name × Meaning) → ℕ → Option (List ℕ) → Option (ℕ × ℕ)
field_bounds es here None = Some (0, 5)
field_bounds es here (Some text) = option_and_then bounds_of (value_of es here text)

-- one piece stored into a word
abbrev pub stored_piece : List (Name × Meaning) → ℕ → Word → List ℕ × Option (List ℕ) → Option Word
stored_piece es here w p =
    option_and_then (λ v. option_map (λ b. stored_at b.0 b.1 v w) (field_bounds es here p.1)) (value_of es here p.0)

-- pieces stored one after the other
abbrev pub stored_all : List (Name × Meaning) → ℕ → List (List ℕ × Option (List ℕ)) → Word → Option Word
stored_all es here [] w = Some w
stored_all es here (p ∷ ps) w = option_and_then (λ u. stored_all es here ps u) (stored_piece es here w p)

abbrev pub stored_by : List (Name × Meaning) → ℕ → Word → Option (List (List ℕ × Option (List ℕ))) → Option Word
stored_by es here w None = None
stored_by es here w (Some ps) = stored_all es here ps w

-- the word of a W-value; none where a value is out of range or a field is no field
abbrev pub w_value_of : List (Name × Meaning) → ℕ → List ℕ → Option Word
w_value_of es here text = stored_by es here (word_of Plus 0) (pieces_of text)

-- whether what brackets hold, if there are any, is an expression
abbrev pub brackets_readable : Option (List ℕ) → Bool
brackets_readable None = true
brackets_readable (Some text) = is_some (terms_of text)

-- whether a piece and its brackets are expressions
abbrev pub piece_readable : List ℕ × Option (List ℕ) → Bool
piece_readable p = is_some (terms_of p.0) && brackets_readable p.1

abbrev pub all_readable : List (List ℕ × Option (List ℕ)) → Bool
all_readable [] = true
all_readable (p ∷ ps) = piece_readable p && all_readable ps

abbrev pub pieces_readable : Option (List (List ℕ × Option (List ℕ))) → Bool
pieces_readable None = false
pieces_readable (Some ps) = all_readable ps

-- whether a text is a W-value
abbrev pub is_w_value : List ℕ → Bool
is_w_value text = pieces_readable (pieces_of text)

-- whether what brackets hold names a symbol that is not defined
abbrev pub brackets_undefined : List (Name × Meaning) → Option (List ℕ) → Bool
brackets_undefined es None = false
brackets_undefined es (Some text) = undefined_in es text

-- whether a piece or its brackets do
abbrev pub piece_undefined : List (Name × Meaning) → List ℕ × Option (List ℕ) → Bool
piece_undefined es p = undefined_in es p.0 || brackets_undefined es p.1

abbrev pub any_undefined : List (Name × Meaning) → List (List ℕ × Option (List ℕ)) → Bool
any_undefined es [] = false
any_undefined es (p ∷ ps) = piece_undefined es p || any_undefined es ps

abbrev pub pieces_undefined : List (Name × Meaning) → Option (List (List ℕ × Option (List ℕ))) → Bool
pieces_undefined es None = false
pieces_undefined es (Some ps) = any_undefined es ps

-- whether a W-value names a symbol that is not defined
abbrev pub w_undefined_in : List (Name × Meaning) → List ℕ → Bool
w_undefined_in es text = pieces_undefined es (pieces_of text)
