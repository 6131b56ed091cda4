-- The orders of the kinds of key.
use Rattle.std.specs.Prelude.{ℕ, Bool, true, false, cond, List, [], ◌∷◌, ◌==◌, nat_lt}
use Rattle.std.specs.Cmp.Lexicographic.{slice_cmp}
use Rattle.std.specs.Ordering.{nat_cmp}
use Rattle.std.specs.declared.cmp.Ordering.{Ordering}
use Rattle.std.specs.Str.{bytes_eq}
use Rattle.table.specs.Order.{before_by}
use Rattle.table.specs.declared.location.Location.{Location}
use Rattle.table.specs.declared.name.Name.{Name}

-- locations go by their numbers
abbrev pub location_cmp : Location → Location → Ordering
location_cmp a b = nat_cmp a.0 b.0

abbrev pub location_before : Location → Location → Bool
location_before = before_by location_cmp

abbrev pub location_same : Location → Location → Bool
location_same a b = a.0 == b.0

-- two lists of codes, told apart by the first place where they differ; a list that ends comes first
abbrev pub lex_before : List ℕ → List ℕ → Bool
lex_before [] [] = false
lex_before [] (y ∷ ys) = true
lex_before (x ∷ xs) [] = false
lex_before (x ∷ xs) (y ∷ ys) = cond (nat_lt x y) true (cond (x == y) (lex_before xs ys) false)

-- names go by their codes
abbrev pub name_cmp : Name → Name → Ordering
name_cmp a b = slice_cmp nat_cmp a.codes b.codes

abbrev pub name_before : Name → Name → Bool
name_before = before_by name_cmp

abbrev pub name_same : Name → Name → Bool
name_same a b = bytes_eq a.codes b.codes
