-- The examples, as antt computes them from the definitions.
use Rattle.std.proofs.Common.{◌≡◌, refl, ap, Some}
use Rattle.arith.specs.declared.pair.Pair.{Pair}
use Rattle.arith.specs.Pairs.{product_of, quotient_of}
use Rattle.arith.specs.Shifts.{shifted_left, shifted_right, turned, sla_of, sra_of, srax_of, slc_of, src_of}
use Rattle.word.specs.declared.sign.Sign.TheVariants.{Plus, Minus}
use Rattle.word.specs.declared.word.Word.{Word}
use Rattle.word.specs.Bytes.{unpacked}
use Rattle.word.specs.Word.{word_of}
use Rattle.word.proofs.Same.{word_same}
use Rattle.examples.specs.Examples.{table}

abbrev pub pair : Word → Word → Pair
pair a x = record { a = a; x = x }

-- two pairs of words with the same signs and magnitudes
pair_same : (p q : Pair) → p.a.sign ≡ q.a.sign → p.a.magnitude ≡ q.a.magnitude → p.x.sign ≡ q.x.sign → p.x.magnitude ≡ q.x.magnitude → p ≡ q
pair_same p q a b c d = λ i. pair (word_same p.a q.a a b i) (word_same p.x q.x c d i)

pub shifts_computed : slc_of 501 (sra_of 2 (src_of 4 (sla_of 2 (srax_of 1 (pair (word_of Plus 17314053) (word_of Minus 102531658)))))) ≡ table.shifts
unfolding table word_of unpacked shifted_left shifted_right turned
shifts_computed = pair_same _ _ refl refl refl refl

pub product_computed : product_of (word_of Minus 112) (word_of Plus 2) ≡ table.product
unfolding table word_of
product_computed = pair_same _ _ refl refl refl refl

pub quotient_computed : quotient_of (pair (word_of Plus 0) (word_of Plus 17)) (word_of Plus 3) ≡ table.quotient
unfolding table word_of
quotient_computed = ap Some (pair_same _ _ refl refl refl refl)
