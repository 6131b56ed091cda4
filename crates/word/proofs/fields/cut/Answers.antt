use Rattle.std.proofs.Common.{◌≡◌, ◌-◌, ◌^◌, ap, ◌∙◌, arith}
use Rattle.word.specs.Field.{width}
use Rattle.word.proofs.Cuts.{read_value}
use Rattle.word.proofs.fields.cut.Goals as goal

pub returns : goal.returns
returns c =
    let f = c.args.field in
    let low : c.power.result ≡ 64 ^ (5 - f.right) = c.power.ensures.exact (omega arith) ∙ ap (λ n. 64 ^ n) c.after.ensures in
    let span : c.power-2.result ≡ 64 ^ width f.left f.right = c.power-2.ensures.exact (omega arith) ∙ ap (λ n. 64 ^ n) c.width.ensures in
    cc (read_value f c.args.word.magnitude c.args.word.small)
