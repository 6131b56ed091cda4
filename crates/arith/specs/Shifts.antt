-- Shifts, as lists of five or ten bytes.
use Rattle.std.specs.Prelude.{ℕ, ◌-◌, ◌%◌, min, Some, None, Option, List, ◌++◌, length, take, drop, replicate}
use Rattle.arith.specs.declared.pair.Pair.{Pair}
use Rattle.arith.specs.declared.shift.Shift.{Shift}
use Rattle.arith.specs.declared.shift.Shift.TheVariants.{Sla, Sra, Slax, Srax, Slc, Src}
use Rattle.word.specs.Bytes.{packed}
use Rattle.word.specs.Word.{word_from, bytes_of}
use Rattle.arith.specs.Pairs.{pair_of, ten_bytes}

-- n bytes go at the left end, zeros come in at the right
unfoldable pub shifted_left : ℕ → List ℕ → List ℕ
shifted_left n bs = drop n bs ++ replicate (min n (length bs)) 0

-- n bytes go at the right end, zeros come in at the left
unfoldable pub shifted_right : ℕ → List ℕ → List ℕ
shifted_right n bs = replicate (min n (length bs)) 0 ++ take (length bs - n) bs

-- the first k bytes go round to the end
unfoldable pub turned : ℕ → List ℕ → List ℕ
turned k bs = drop k bs ++ take k bs

-- n bytes of ten leave at the left end and come in at the right
abbrev pub rotated_left : ℕ → List ℕ → List ℕ
rotated_left n bs = turned (n % 10) bs

-- n bytes of ten leave at the right end and come in at the left
abbrev pub rotated_right : ℕ → List ℕ → List ℕ
rotated_right n bs = turned (10 - n % 10) bs

-- SLA and SRA move the bytes of A; its sign and X stay
abbrev pub sla_of : ℕ → Pair → Pair
sla_of n p = record { a = word_from p.a.sign (shifted_left n (bytes_of p.a)); x = p.x }

abbrev pub sra_of : ℕ → Pair → Pair
sra_of n p = record { a = word_from p.a.sign (shifted_right n (bytes_of p.a)); x = p.x }

-- SLAX, SRAX, SLC and SRC move the ten bytes of AX; both signs stay
abbrev pub slax_of : ℕ → Pair → Pair
slax_of n p = pair_of p.a.sign p.x.sign (packed (shifted_left n (ten_bytes p)))

abbrev pub srax_of : ℕ → Pair → Pair
srax_of n p = pair_of p.a.sign p.x.sign (packed (shifted_right n (ten_bytes p)))

abbrev pub slc_of : ℕ → Pair → Pair
slc_of n p = pair_of p.a.sign p.x.sign (packed (rotated_left n (ten_bytes p)))

abbrev pub src_of : ℕ → Pair → Pair
src_of n p = pair_of p.a.sign p.x.sign (packed (rotated_right n (ten_bytes p)))

-- A and X after a shift by n
abbrev pub shifted_by : Shift → ℕ → Pair → Pair
shifted_by Sla n p = sla_of n p
shifted_by Sra n p = sra_of n p
shifted_by Slax n p = slax_of n p
shifted_by Srax n p = srax_of n p
shifted_by Slc n p = slc_of n p
shifted_by Src n p = src_of n p

-- the bytes that a shift moves: those of A, or all ten
abbrev pub moving : Shift → Pair → List ℕ
moving Sla p = bytes_of p.a
moving Sra p = bytes_of p.a
moving Slax p = ten_bytes p
moving Srax p = ten_bytes p
moving Slc p = ten_bytes p
moving Src p = ten_bytes p

-- where a shift by n moves them
abbrev pub moved : Shift → ℕ → List ℕ → List ℕ
moved Sla n bs = shifted_left n bs
moved Sra n bs = shifted_right n bs
moved Slax n bs = shifted_left n bs
moved Srax n bs = shifted_right n bs
moved Slc n bs = rotated_left n bs
moved Src n bs = rotated_right n bs

-- the shift that undoes a shift by the same count: SLC and SRC have one
abbrev pub undoing : Shift → Option Shift
undoing Sla = None
undoing Sra = None
undoing Slax = None
undoing Srax = None
undoing Slc = Some Src
undoing Src = Some Slc
