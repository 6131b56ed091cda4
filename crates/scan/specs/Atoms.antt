-- Operators and atoms at the front of a text.
use Rattle.std.specs.Prelude.{ℕ, suc, ◌+◌, ◌-◌, ◌*◌, Bool, true, cond, ◌&&◌, List, [], ◌∷◌, length, take, drop, Some, None, Option, ◌==◌, nat_le}
use Rattle.std.specs.Option.{option_map}
use Rattle.scan.specs.declared.terms.Operator.{Operator}
use Rattle.scan.specs.declared.terms.Operator.TheVariants.{Plus, Minus, Times, Divide, Fraction, Colon}
use Rattle.scan.specs.declared.terms.Atom.{Atom}
use Rattle.scan.specs.declared.terms.Atom.TheVariants.{Number, Symbol, Here}
use Rattle.scan.specs.Symbols.{is_digit, is_mark, name_of}

-- after a stroke: a second one makes a fraction
abbrev pub slash_of : List ℕ → Operator × List ℕ
slash_of [] = (Divide, [])
slash_of (b ∷ bs) = cond (b == 47) (Fraction, bs) (Divide, b ∷ bs)

-- the operator at the front of a text, and what follows it
abbrev pub operator_of : List ℕ → Option (Operator × List ℕ)
operator_of [] = None
operator_of (b ∷ bs) =
    cond (b == 43) (Some (Plus, bs)) (cond (b == 45) (Some (Minus, bs)) (cond (b == 42) (Some (Times, bs))
    (cond (b == 47) (Some (slash_of bs)) (cond (b == 58) (Some (Colon, bs)) None))))

-- the sign at the front of a text, which is plus where there is none, and what follows it
abbrev pub sign_of : List ℕ → Operator × List ℕ
sign_of [] = (Plus, [])
sign_of (b ∷ bs) = cond (b == 43) (Plus, bs) (cond (b == 45) (Minus, bs) (Plus, b ∷ bs))

-- each byte is a digit
abbrev pub all_digits : List ℕ → Bool
all_digits [] = true
all_digits (b ∷ bs) = is_digit b && all_digits bs

-- the number that digits write, a being that of the digits before them
abbrev pub digits_from : ℕ → List ℕ → ℕ
digits_from a [] = a
digits_from a (b ∷ bs) = digits_from (10 * a + (b - 48)) bs

-- the number of 1 to 10 digits
abbrev pub number_of : List ℕ → Option ℕ
number_of bs = cond (nat_le 1 (length bs) && (nat_le (length bs) 10 && all_digits bs)) (Some (digits_from 0 bs)) None

-- a number first, else a symbol
abbrev pub either_of : Option ℕ → Option (List ℕ) → Option Atom
either_of (Some n) name = Some (Number n)
either_of None name = option_map Symbol name

-- the atom that letters and digits write
abbrev pub word_of : List ℕ → Option Atom
word_of bs = either_of (number_of bs) (name_of bs)

-- how many letters and digits stand at the front of a text
abbrev pub run_of : List ℕ → ℕ
run_of [] = 0
run_of (b ∷ bs) = cond (is_mark b) (suc (run_of bs)) 0

-- the atom of the letters and digits at the front of a text, and what follows them
abbrev pub front_of : List ℕ → Option (Atom × List ℕ)
front_of bs = option_map (λ a. (a, drop (run_of bs) bs)) (word_of (take (run_of bs) bs))

-- the atom at the front of a text, and what follows it
abbrev pub atom_of : List ℕ → Option (Atom × List ℕ)
atom_of [] = None
atom_of (b ∷ bs) = cond (b == 42) (Some (Here, bs)) (front_of (b ∷ bs))
