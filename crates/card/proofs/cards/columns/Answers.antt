use Rattle.std.proofs.Common.{ℕ, ◌-◌, List, ◌++◌, length, replicate, ap, ◌∙◌}
use Rattle.std.proofs.lemmas.List.{drop-replicate}
use Rattle.card.specs.Lines.{trimmed}
use Rattle.card.specs.Text.{padded, all_coded}
use Rattle.card.proofs.Blanks.{trim_blanks}
use Rattle.card.proofs.Codes.{padded_coded}
use Rattle.card.proofs.cards.columns.Goals as goal

pub returns : goal.returns
unfolding padded
returns c =
    let e = ap (λ (l : List ℕ). c.copy_from_slice.new.self ++ l) (drop-replicate (length c.args.text.now) 80 32) ∙ ap (λ (l : List ℕ). l ++ replicate (80 - length c.args.text.now) 32) c.copy_from_slice.ensures.after in
    record { text = e; coded = ap all_coded e ∙ padded_coded c.args.text.now; same = ap trimmed e ∙ trim_blanks c.args.text.now (80 - length c.args.text.now) }
