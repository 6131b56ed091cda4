-- The field that a code names.
use Rattle.std.proofs.Common.{◌≡◌, ℕ, ◌≤◌, Some, Ok, Err, Result, refl, ap, ◌∙◌, arith}
use mathlib.Core.HLevel.{is_prop→PathP}
use native.Mathlib.Bridge.{le_prop}
use Rattle.std.specs.Result.{result_ok}
use Rattle.word.specs.declared.field.Field.{Field}
use Rattle.word.specs.declared.field.NoField.{NoField}
use Rattle.word.specs.Field.{Decodes}
use Rattle.cpu.specs.Decoding.{field_at, field_if}

-- two fields of the same bytes are the same
pub field_same : (f g : Field) → f.left ≡ g.left → f.right ≡ g.right → f ≡ g
field_same f g l r = λ i. record {
  left = l i;
  right = r i;
  ordered = is_prop→PathP (λ j. l j ≤ r j) (λ j. le_prop {n = l j} {m = r j}) f.ordered g.ordered i;
  within = is_prop→PathP (λ j. r j ≤ 5) (λ j. le_prop {n = r j} {m = 5}) f.within g.within i;
}

-- what is found for a code is the field that it names
pub field_found : (n : ℕ) (r : Result Field NoField) → Decodes n r → result_ok r ≡ field_if n
unfolding field_at
field_found n (Ok f) h =
    let a = f.ordered in
    let b = f.within in
    let e : f ≡ field_at n = field_same f _ (h.1 ∙ omega arith) (h.2 ∙ omega arith) in
    rw h.0 (ap (λ g. Some g) e)
field_found n (Err e) h = rw h refl
