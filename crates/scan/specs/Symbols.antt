-- Symbols and their codes.
use Rattle.std.specs.Prelude.{ℕ, Bool, true, false, cond, ◌&&◌, ◌||◌, List, [], ◌∷◌, length, None, Option, nat_le}
use Rattle.std.specs.Option.{option_map}
use Rattle.card.specs.Text.{text_codes, filled}

-- a letter, A to Z
abbrev pub is_letter : ℕ → Bool
is_letter b = nat_le 65 b && nat_le b 90

-- a digit, 0 to 9
abbrev pub is_digit : ℕ → Bool
is_digit b = nat_le 48 b && nat_le b 57

-- a letter or a digit
abbrev pub is_mark : ℕ → Bool
is_mark b = is_letter b || is_digit b

-- each byte is a letter or a digit
abbrev pub all_marks : List ℕ → Bool
all_marks [] = true
all_marks (b ∷ bs) = is_mark b && all_marks bs

-- some byte is a letter
abbrev pub any_letter : List ℕ → Bool
any_letter [] = false
any_letter (b ∷ bs) = is_letter b || any_letter bs

-- 1 to 10 letters and digits, one a letter at least
abbrev pub is_symbol : List ℕ → Bool
is_symbol bs = nat_le (length bs) 10 && (all_marks bs && any_letter bs)

-- the codes of a symbol's characters, ten with the zeros after them; none where the text is no symbol
abbrev pub name_of : List ℕ → Option (List ℕ)
name_of bs = cond (is_symbol bs) (option_map (filled 10) (text_codes bs)) None
