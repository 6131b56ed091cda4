use Rattle.std.proofs.Common.{◌≡◌, ap, ◌∙◌, refl, rules}
use Rattle.card.specs.Table.{character_of}
use Rattle.card.specs.Text.{text_codes}
use Rattle.card.proofs.Arrays.{made_map}
use Rattle.card.proofs.Codes.{codes_again}
use Rattle.card.proofs.words.spelled.Goals as goal

pub returns : goal.returns
returns g c =
    let e = made_map _ (λ p. p.0.now ≡ c.args.codes) character_of c.args.codes 0 (λ p i y q v l k. search rules) _ c.from_fn.result g.row.N refl (search rules) c.from_fn.ensures.items in
    record { text = e; back = λ h. ap text_codes e ∙ codes_again c.args.codes h }
