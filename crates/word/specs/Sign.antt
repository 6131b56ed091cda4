-- Signs.
use Rattle.std.specs.Prelude.{Bool, true, false}
use Rattle.word.specs.declared.sign.Sign.{Sign}
use Rattle.word.specs.declared.sign.Sign.TheVariants.{Plus, Minus}

-- the other sign
abbrev pub opposite : Sign → Sign
opposite Plus = Minus
opposite Minus = Plus

-- plus for like signs
abbrev pub product : Sign → Sign → Sign
product Plus s = s
product Minus s = opposite s

-- whether two signs are like
abbrev pub like : Sign → Sign → Bool
like Plus Plus = true
like Plus Minus = false
like Minus Plus = false
like Minus Minus = true
