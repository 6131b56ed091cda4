-- Where two outcomes differ, line by line.
use Rattle.std.specs.Prelude.{ℕ, ◌+◌, ◌*◌, ◌-◌, cond, List, [], ◌∷◌, ◌++◌, slice_index, ◌==◌}
use Rattle.std.specs.List.{flat_map}
use Rattle.std.specs.Ordering.{match_ordering, nat_cmp}
use Rattle.std.specs.Str.{bytes_eq}
use Rattle.card.specs.Lines.{grown}

-- the lines of a text, each with its byte 10; what stands after the last byte 10 is a line unless it is empty
abbrev pub lines_of : List ℕ → List (List ℕ)
lines_of [] = []
lines_of (b ∷ bs) = cond (b == 10) ((b ∷ []) ∷ lines_of bs) (grown b (lines_of bs))

-- the digit at a column of a line
abbrev pub digit_at : List ℕ → ℕ → ℕ
digit_at l i = slice_index l i - 48

-- the location that a line of memory begins with
abbrev pub location_at : List ℕ → ℕ
location_at l = 1000 * digit_at l 0 + 100 * digit_at l 1 + 10 * digit_at l 2 + digit_at l 3

-- the lines that begin with C: CLEAN, the indicator's, and those of the punch
abbrev pub place_with_c : ℕ → ℕ
place_with_c b = cond (b == 76) 3 (cond (b == 73) 14 2)

-- the place of a line by how it begins: FAULT and NOT HALTED; P; C; MARK and CLEAN; A, I1 to I6, X; J; OV; CI; WORK;
-- a location
abbrev pub place_from : ℕ → List ℕ → ℕ
place_from b l =
    cond (b == 70) 0 (
    cond (b == 78) 0 (
    cond (b == 80) 1 (
    cond (b == 67) (place_with_c (slice_index l 1)) (
    cond (b == 77) 3 (
    cond (b == 65) 4 (
    cond (b == 73) (4 + digit_at l 1) (
    cond (b == 88) 11 (
    cond (b == 74) 12 (
    cond (b == 79) 13 (
    cond (b == 87) 20000 (
    15 + location_at l)))))))))))

unfoldable pub place : List ℕ → ℕ
place l = place_from (slice_index l 0) l

-- a line that only the first text has begins with <, and one that only the second has with >
abbrev pub marked : ℕ → List ℕ → List ℕ
marked m l = m ∷ 32 ∷ l

-- two lines of one place
abbrev pub unlike : List ℕ → List ℕ → List ℕ
unlike x y = cond (bytes_eq x y) [] (marked 60 x ++ marked 62 y)

-- the first text goes on with the line x, and `rest` is what its other lines come to beside lines of the second: of
-- two lines the one with the smaller place stands alone, and two of one place are compared
abbrev pub beside : List ℕ → (List (List ℕ) → List ℕ) → List (List ℕ) → List ℕ
beside x rest [] = marked 60 x ++ rest []
beside x rest (y ∷ ys) =
    match_ordering (nat_cmp (place x) (place y)) (marked 60 x ++ rest (y ∷ ys)) (unlike x y ++ rest ys) (marked 62 y ++ beside x rest ys)

abbrev pub differing : List (List ℕ) → List (List ℕ) → List ℕ
differing [] ys = flat_map (marked 62) ys
differing (x ∷ xs) ys = beside x (differing xs) ys

-- the differences of two texts
abbrev pub differences : List ℕ → List ℕ → List ℕ
differences a b = differing (lines_of a) (lines_of b)
