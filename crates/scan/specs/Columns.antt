-- The columns of a card, counted from 1.
use Rattle.std.specs.Prelude.{ℕ, ◌-◌, Bool, not, ◌||◌, List, [], ◌∷◌, take, drop, ◌==◌, slice_index_or}
use Rattle.card.specs.Lines.{trimmed}
use Rattle.scan.specs.Cuts.{before}

-- what column n holds; past the card's end it is blank
abbrev pub column_at : ℕ → List ℕ → ℕ
column_at n bs = slice_index_or bs (n - 1) 32

-- column 1 is an asterisk
abbrev pub is_remark : List ℕ → Bool
is_remark bs = column_at 1 bs == 42

-- columns 1 to 10, without the blanks at their end
abbrev pub loc_of : List ℕ → List ℕ
loc_of bs = trimmed (take 10 bs)

-- column 11 or column 16 is not blank
abbrev pub gap_filled : List ℕ → Bool
gap_filled bs = not (column_at 11 bs == 32) || not (column_at 16 bs == 32)

-- columns 12 to 15
abbrev pub op_of : List ℕ → List ℕ
op_of bs = column_at 12 bs ∷ column_at 13 bs ∷ column_at 14 bs ∷ column_at 15 bs ∷ []

-- columns 17 to 21
abbrev pub alf_of : List ℕ → List ℕ
alf_of bs = column_at 17 bs ∷ column_at 18 bs ∷ column_at 19 bs ∷ column_at 20 bs ∷ column_at 21 bs ∷ []

-- from column 17 up to the first blank
abbrev pub address_of : List ℕ → List ℕ
address_of bs = before 32 (drop 16 bs)
