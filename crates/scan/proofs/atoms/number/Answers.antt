use Rattle.std.proofs.Common.{ℕ, ◌+◌, ◌*◌, ◌≤◌, drop, sym, ap, ◌∙◌, arith}
use Rattle.std.proofs.lemmas.List.{at_drop_all}
use Rattle.std.proofs.lemmas.Bool.Decides.{nat_tests}
use Rattle.scan.specs.Atoms.{all_digits, digits_from}
use Rattle.scan.proofs.Digits.{digits_at, value_at, value_bound}
use Rattle.scan.proofs.atoms.number.Goals as goal

pub returns-then-not-is_digit : goal.returns-then-not-is_digit
returns-then-not-is_digit c =
    let m = digits_at c.args.text.now c.loop-b.b-index c.loop-b-test.true in
    let d = c.if-not-is-digit.ensures in
    grind (arith, nat_tests)

pub loop-b-preserved : goal.loop-b-preserved
loop-b-preserved c =
    let m = digits_at c.args.text.now c.loop-b.b-index c.loop-b-test.true in
    let d = c.if-not-is-digit.ensures in
    let n : c.from.result ≤ 9 = grind (arith, nat_tests) in (
      value_bound c.loop-b.b-index c.loop-b.sum c.from.result c.loop-b.invariant.0 n,
      grind (arith, nat_tests),
      ap (λ (k : ℕ). digits_from (10 * c.loop-b.sum + k) (drop (c.loop-b.b-index + 1) c.args.text.now)) c.from.ensures ∙ sym (value_at c.loop-b.sum c.args.text.now c.loop-b.b-index c.loop-b-test.true) ∙ c.loop-b.invariant.2,
    )

pub returns : goal.returns
returns c =
    let m = at_drop_all all_digits c.args.text.now c.loop-b.b-index c.loop-b-test.false in
    let v = at_drop_all (digits_from c.loop-b.sum) c.args.text.now c.loop-b.b-index c.loop-b-test.false in
    let e = c.if-is-empty.ensures in
    grind (arith, nat_tests)
