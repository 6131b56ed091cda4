-- Words as signs and bytes, and as numbers.
use Rattle.std.specs.Prelude.{ℕ, ◌%◌, ◌^◌, ◌<◌, cond, List, ℤ, pos, ◌-ℤ◌, Some, None, Option}
use Rattle.std.proofs.Common.{arith}
use Rattle.word.specs.declared.sign.Sign.{Sign}
use Rattle.word.specs.declared.sign.Sign.TheVariants.{Plus, Minus}
use Rattle.word.specs.declared.word.Word.{Word}
use Rattle.word.specs.Bytes.{packed, unpacked, are_bytes}
use Rattle.word.specs.Sign.{opposite}

unfoldable pub small_rest : (m : ℕ) → m % 2 ^ 30 < 2 ^ 30
small_rest m = omega arith

-- the word of a sign and a number, of which the part below 2^30 stays
unfoldable pub word_of : Sign → ℕ → Word
word_of s m = record { sign = s; magnitude = m % 2 ^ 30; small = small_rest m }

-- a word's five bytes, byte 1 first
abbrev pub bytes_of : Word → List ℕ
bytes_of w = unpacked 5 w.magnitude

-- the word of a sign and five bytes
abbrev pub word_from : Sign → List ℕ → Word
word_from s bs = word_of s (packed bs)

-- five bytes make a word; where one is above 63 there is none
abbrev pub made_from : Sign → List ℕ → Option Word
made_from s bs = cond (are_bytes bs) (Some (word_from s bs)) None

-- the number of a sign and a magnitude
abbrev pub signed : Sign → ℕ → ℤ
signed Plus m = pos m
signed Minus m = pos 0 -ℤ pos m

-- a word's number: +0 and -0 have the same
abbrev pub value : Word → ℤ
value w = signed w.sign w.magnitude

-- the word with its sign turned
abbrev pub negative : Word → Word
negative w = word_of (opposite w.sign) w.magnitude
