-- Numbers below 0 and above, and the parts of an instruction's word.
use Rattle.std.proofs.Common.{◌≡◌, ℕ, ◌/◌, ◌%◌, ◌^◌, not, refl, ap, ◌∙◌, arith, pos, ◌<ℤ◌, Decides}
use Rattle.std.proofs.lemmas.Bool.{false≢true, ne_eqb, not-true, eqb-false}
use Rattle.std.proofs.lemmas.Int.{ints}
use Rattle.word.specs.declared.sign.Sign.{Sign}
use Rattle.word.specs.declared.sign.Sign.TheVariants.{Plus, Minus}
use Rattle.word.specs.declared.word.Word.{Word}
use Rattle.word.specs.Sign.{opposite}
use Rattle.word.specs.Word.{signed, value}
use Rattle.word.proofs.Same.{five_written, word_of_magnitude, word_of_sign}
use Rattle.cpu.specs.Instructions.{is_negative, is_positive, negative_if}
use Rattle.cpu.specs.Laws.{InstructionParts}

below : (s : Sign) (m : ℕ) → Decides (negative_if s m) (signed s m <ℤ pos 0)
below Plus m = (λ e. absurd (false≢true e), λ h. absurd (omega (arith, ints)))
below Minus m = (λ e. let n = eqb-false m 0 (not-true _ e) in omega (arith, ints, n), λ h. ap not (ne_eqb m 0 (λ e. omega (arith, ints))))

above : (s : Sign) (m : ℕ) → Decides (negative_if (opposite s) m) (pos 0 <ℤ signed s m)
above Plus m = (λ e. let n = eqb-false m 0 (not-true _ e) in omega (arith, ints, n), λ h. ap not (ne_eqb m 0 (λ e. omega (arith, ints))))
above Minus m = (λ e. absurd (false≢true e), λ h. absurd (omega (arith, ints)))

pub negative_law : (w : Word) → Decides (is_negative w) (value w <ℤ pos 0)
negative_law w = below w.sign w.magnitude

pub positive_law : (w : Word) → Decides (is_positive w) (pos 0 <ℤ value w)
positive_law w = above w.sign w.magnitude

pub parts_law : (w : Word) → InstructionParts w
parts_law w =
    let small = w.small in
    let a = word_of_magnitude w.sign (w.magnitude / 262144) in
    let high : w.magnitude / 16777216 % 64 ≡ w.magnitude / 262144 % 2 ^ 30 / 64 = omega arith in
    let low : w.magnitude / 262144 % 64 ≡ w.magnitude / 262144 % 2 ^ 30 % 64 = omega arith in
    record { bytes = five_written w.magnitude ∙ rw (high, low) (rw a refl); sign = word_of_sign w.sign (w.magnitude / 262144) }
