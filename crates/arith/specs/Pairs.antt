-- A and X together, as one number and as ten bytes; products and quotients.
use Rattle.std.specs.Prelude.{ℕ, ◌+◌, ◌*◌, ◌/◌, ◌%◌, ◌^◌, cond, Some, None, Option, List, ◌++◌, nat_lt}
use Rattle.arith.specs.declared.pair.Pair.{Pair}
use Rattle.word.specs.declared.sign.Sign.{Sign}
use Rattle.word.specs.declared.word.Word.{Word}
use Rattle.word.specs.Sign.{product}
use Rattle.word.specs.Word.{word_of, bytes_of}

-- the magnitude of AX: A's bytes, then X's
abbrev pub joint : Pair → ℕ
joint p = p.a.magnitude * 2 ^ 30 + p.x.magnitude

-- the ten bytes of AX
abbrev pub ten_bytes : Pair → List ℕ
ten_bytes p = bytes_of p.a ++ bytes_of p.x

-- a number below 2^60 as the words for A and X
abbrev pub pair_of : Sign → Sign → ℕ → Pair
pair_of s t n = record { a = word_of s (n / 2 ^ 30); x = word_of t n }

-- A times V, both words with the product's sign
abbrev pub product_of : Word → Word → Pair
product_of a v = pair_of (product a.sign v.sign) (product a.sign v.sign) (a.magnitude * v.magnitude)

-- the quotient of AX by V for A, signed as a product, and the remainder for X, with A's old sign
abbrev pub divided_by : Pair → Word → Pair
divided_by p v =
    record { a = word_of (product p.a.sign v.sign) (joint p / v.magnitude); x = word_of p.a.sign (joint p % v.magnitude) }

-- AX by V; none where |A| ≥ |V|, and then both stay
abbrev pub quotient_of : Pair → Word → Option Pair
quotient_of p v = cond (nat_lt p.a.magnitude v.magnitude) (Some (divided_by p v)) None

-- A and X after DIV: quotient and remainder where |A| < |V|; else both stay
abbrev pub after_division : Pair → Word → Pair
after_division p v = cond (nat_lt p.a.magnitude v.magnitude) (divided_by p v) p
