-- The examples, as antt computes them from the definitions.
use Rattle.std.proofs.Common.{◌≡◌, [], Some, None, codes, Option, refl, ap}
use Rattle.eval.specs.Eval.{value_of}
use Rattle.word.specs.Field.{stored_bytes, right_end}
use Rattle.wvalues.specs.Pieces.{w_value_of}
use Rattle.word.specs.declared.word.Word.{Word}
use Rattle.word.specs.Bytes.{unpacked}
use Rattle.word.specs.Word.{word_of}
use Rattle.word.proofs.Same.{word_same}
use Rattle.examples.specs.Examples.{table}

-- two words that are there, with the same signs and magnitudes
abbrev Alike : Option Word → Option Word → Type 0
Alike None p = ⊥
Alike (Some v) None = ⊥
Alike (Some v) (Some w) = (v.sign ≡ w.sign) × (v.magnitude ≡ w.magnitude)

some_same : (o p : Option Word) → Alike o p → o ≡ p
some_same None p h = absurd h
some_same (Some v) None h = absurd h
some_same (Some v) (Some w) h = ap Some (word_same v w h.0 h.1)

pub expression_computed : value_of [] 0 (codes "-1+5*20/6") ≡ table.expression
unfolding table word_of
expression_computed = some_same (value_of [] 0 (codes "-1+5*20/6")) table.expression (refl, refl)

pub fraction_computed : value_of [] 0 (codes "1//3") ≡ table.fraction
unfolding table word_of
fraction_computed = some_same (value_of [] 0 (codes "1//3")) table.fraction (refl, refl)

pub fields_computed : w_value_of [] 0 (codes "1,-1000(0:2)") ≡ table.fields
unfolding table word_of unpacked stored_bytes right_end
fields_computed = some_same (w_value_of [] 0 (codes "1,-1000(0:2)")) table.fields (refl, refl)
