use Rattle.std.proofs.Common.{◌≡◌, [], ap, ◌∙◌, refl, rules}
use Rattle.std.specs.List.{flat_map}
use Rattle.std.proofs.lemmas.List.Folds.{flat_map-map}
use Rattle.word.specs.declared.sign.Sign.TheVariants.{Plus}
use Rattle.word.specs.Word.{word_from}
use Rattle.card.specs.Text.{word_text}
use Rattle.card.proofs.Arrays.{made_map}
use Rattle.card.proofs.cards.punched.Goals as goal

pub returns : goal.returns
returns g c =
    let e = made_map _ (λ p. p.0.now ≡ c.args.words.now) word_text c.args.words.now (word_from Plus []) (λ p i y q v l k. search rules) _ c.from_fn-fives.result g.row.W refl (search rules) c.from_fn-fives.ensures.items in
    c.copy_from_slice.ensures.after ∙ c.as_flattened.ensures.value ∙ ap (flat_map (λ x. x)) e ∙ flat_map-map (λ x. x) word_text c.args.words.now
