-- A text cut at its first byte of a kind.
use Rattle.std.specs.Prelude.{ℕ, List, take, drop}
use Rattle.card.specs.Lines.{up_to}

-- what stands before the first byte x, or all where there is none
abbrev pub before : ℕ → List ℕ → List ℕ
before x bs = take (up_to x bs) bs

-- the first byte x and what follows it, or nothing where there is none
abbrev pub onward : ℕ → List ℕ → List ℕ
onward x bs = drop (up_to x bs) bs
