-- Expressions worked left to right.
use Rattle.std.specs.Prelude.{ℕ, Bool, false, not, ◌||◌, List, [], ◌∷◌, is_some, Some, None, Option}
use Rattle.scan.specs.Terms.{terms_of}
use Rattle.scan.specs.declared.terms.Atom.{Atom}
use Rattle.scan.specs.declared.terms.Atom.TheVariants.{Number, Symbol, Here}
use Rattle.scan.specs.declared.terms.Operator.{Operator}
use Rattle.scan.specs.declared.terms.Operator.TheVariants.{Plus, Minus, Times, Divide, Fraction, Colon}
use Rattle.scan.specs.declared.terms.Term.{Term}
use Rattle.std.specs.Option.{option_map, option_and_then}
use Rattle.symbols.specs.Symbols.{known_as}
use Rattle.symbols.specs.declared.meaning.Meaning.{Meaning}
use Rattle.table.specs.declared.name.Name.{Name}
use Rattle.values.specs.Values.{plain, fitted, sum_of, difference_of, times_of, over_of, fraction_of, colon_of}
use Rattle.word.specs.declared.sign.Sign.TheVariants.{Plus as PlusSign}
use Rattle.word.specs.declared.word.Word.{Word}
use Rattle.word.specs.Word.{word_of}

-- a symbol's word as a number: its zero is plus
abbrev pub as_number : Word → Word
as_number w = plain w.sign w.magnitude

-- what an atom stands for, es being the symbols and here the location; none where it is unknown or too large
abbrev pub atom_word : List (Name × Meaning) → ℕ → Atom → Option Word
atom_word es here (Number n) = fitted PlusSign n
atom_word es here (Symbol codes) = option_map as_number (known_as es (record { codes = codes }))
atom_word es here Here = Some (word_of PlusSign here)

-- one operator worked
abbrev pub applied : Operator → Word → Word → Option Word
applied Plus a b = sum_of a b
applied Minus a b = difference_of a b
applied Times a b = times_of a b
applied Divide a b = over_of a b
applied Fraction a b = fraction_of a b
applied Colon a b = colon_of a b

-- an operator worked with what an atom stands for
abbrev pub applied_to : Operator → Word → Option Word → Option Word
applied_to o v None = None
applied_to o v (Some w) = applied o v w

-- one term worked on a value
abbrev pub stepped : List (Name × Meaning) → ℕ → Word → Term → Option Word
stepped es here v t = applied_to t.op v (atom_word es here t.atom)

-- terms worked left to right from a value
abbrev pub worked_from : List (Name × Meaning) → ℕ → List Term → Word → Option Word
worked_from es here [] v = Some v
worked_from es here (t ∷ ts) v = option_and_then (λ w. worked_from es here ts w) (stepped es here v t)

-- the terms of a text worked from a value, where it has terms
abbrev pub worked_by : List (Name × Meaning) → ℕ → Word → Option (List Term) → Option Word
worked_by es here v None = None
worked_by es here v (Some ts) = worked_from es here ts v

-- the value of an expression, worked from zero; none where it is out of range, where a symbol is unknown
-- or where the text is no expression
abbrev pub value_of : List (Name × Meaning) → ℕ → List ℕ → Option Word
value_of es here text = worked_by es here (word_of PlusSign 0) (terms_of text)

-- whether an atom is a symbol that is not defined
abbrev pub is_unknown : List (Name × Meaning) → Atom → Bool
is_unknown es (Number n) = false
is_unknown es (Symbol codes) = not (is_some (known_as es (record { codes = codes })))
is_unknown es Here = false

-- whether a term has such an atom
abbrev pub any_unknown : List (Name × Meaning) → List Term → Bool
any_unknown es [] = false
any_unknown es (t ∷ ts) = is_unknown es t.atom || any_unknown es ts

abbrev pub any_unknown_in : List (Name × Meaning) → Option (List Term) → Bool
any_unknown_in es None = false
any_unknown_in es (Some ts) = any_unknown es ts

-- whether an expression names a symbol that is not defined
abbrev pub undefined_in : List (Name × Meaning) → List ℕ → Bool
undefined_in es text = any_unknown_in es (terms_of text)
