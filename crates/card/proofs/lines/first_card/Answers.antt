use Rattle.std.proofs.Common.{◌≡◌, ℕ, suc, ◌+◌, take, drop, ap, ◌∙◌, arith, rules}
use Rattle.std.proofs.lemmas.List.{take_rest, drop_all}
use Rattle.card.specs.Lines.{up_to}
use Rattle.card.proofs.Split.{split}
use Rattle.card.proofs.lines.first_card.Goals as goal

pub returns : goal.returns
returns c =
    let r : c.unwrap_or.result.now ≡ drop (c.until-end.result + 1) c.args.text.now = search (rules, take_rest, drop_all) in
    let e : c.until-end.result + 1 ≡ suc (up_to 10 c.args.text.now) = omega arith in
    split c.args.text.now _ _ (search rules) (ap (λ (n : ℕ). take n c.args.text.now) c.until-end.ensures.value) (r ∙ ap (λ (n : ℕ). drop n c.args.text.now) e)
