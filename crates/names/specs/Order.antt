-- The table in the order of the names, and the names as numbers.
use Rattle.std.specs.Prelude.{◌≡◌, ℕ, ◌<◌, length, ◌+◌, ◌*◌, cond, List, [], ◌∷◌, nat_lt, slice_index, slice_index_or}
use Rattle.names.specs.declared.kinds.Operation.TheVariants.{Machine}
use Rattle.names.specs.Names.{Line, table}

-- four bytes
abbrev pub Columns : List ℕ → Type 0
Columns w = (length w ≡ 4) × (slice_index w 0 < 256) × (slice_index w 1 < 256) × (slice_index w 2 < 256) × (slice_index w 3 < 256)

-- four columns as a number, the first counting most
abbrev pub key_of : List ℕ → ℕ
key_of w = slice_index w 0 * 16777216 + slice_index w 1 * 65536 + slice_index w 2 * 256 + slice_index w 3

-- a line put before the first whose name is not below its own
abbrev pub insert : Line → List Line → List Line
insert l [] = l ∷ []
insert l (m ∷ ms) = cond (nat_lt (key_of m.0) (key_of l.0)) (m ∷ insert l ms) (l ∷ m ∷ ms)

abbrev pub sorted : List Line → List Line
sorted [] = []
sorted (l ∷ ls) = insert l (sorted ls)

-- the table in the order of the names
unfoldable pub ordered : List Line
ordered = sorted table

-- the line at a place in that order
abbrev pub line_at : ℕ → Line
line_at k = slice_index_or ordered k ([], Machine (record { c = 0; f = 0 }))
