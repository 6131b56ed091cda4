-- The values of expressions: numbers below 2^30, zero being plus, and the six operators on them.
use Rattle.std.specs.Prelude.{ℕ, ◌*◌, ◌/◌, ◌^◌, cond, Some, None, Option, ◌==◌, nat_lt}
use Rattle.arith.specs.Sums.{sum_sign, sum_size}
use Rattle.word.specs.declared.sign.Sign.{Sign}
use Rattle.word.specs.declared.sign.Sign.TheVariants.{Plus}
use Rattle.word.specs.declared.word.Word.{Word}
use Rattle.word.specs.Sign.{product, opposite}
use Rattle.word.specs.Word.{word_of}

-- a number whose zero is plus
abbrev pub plain : Sign → ℕ → Word
plain s m = word_of (cond (m == 0) Plus s) m

-- a result, unless its magnitude is 2^30 or more
abbrev pub fitted : Sign → ℕ → Option Word
fitted s m = cond (nat_lt m (2 ^ 30)) (Some (plain s m)) None

-- a + b
abbrev pub sum_of : Word → Word → Option Word
sum_of a b =
    fitted (sum_sign a.sign a.magnitude b.sign b.magnitude) (sum_size a.sign a.magnitude b.sign b.magnitude)

-- a - b
abbrev pub difference_of : Word → Word → Option Word
difference_of a b =
    fitted (sum_sign a.sign a.magnitude (opposite b.sign) b.magnitude)
    (sum_size a.sign a.magnitude (opposite b.sign) b.magnitude)

-- a * b
abbrev pub times_of : Word → Word → Option Word
times_of a b = fitted (product a.sign b.sign) (a.magnitude * b.magnitude)

-- a / b, cut toward zero; none where b is 0
abbrev pub over_of : Word → Word → Option Word
over_of a b = cond (b.magnitude == 0) None (fitted (product a.sign b.sign) (a.magnitude / b.magnitude))

-- a // b: a times 2^30 by b, cut toward zero; none where b is 0
abbrev pub fraction_of : Word → Word → Option Word
fraction_of a b =
    cond (b.magnitude == 0) None (fitted (product a.sign b.sign) (a.magnitude * 2 ^ 30 / b.magnitude))

-- a : b, that is 8 a + b
abbrev pub colon_of : Word → Word → Option Word
colon_of a b =
    fitted (sum_sign a.sign (8 * a.magnitude) b.sign b.magnitude) (sum_size a.sign (8 * a.magnitude) b.sign b.magnitude)
