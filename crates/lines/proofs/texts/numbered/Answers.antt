use Rattle.std.proofs.Common.{ℕ, ◌-◌, List, ◌∷◌, ◌++◌, replicate, ap, ◌∙◌, rules}
use Rattle.lines.specs.Lines.{four_digits}
use Rattle.lines.proofs.Ends.{numbered}
use Rattle.lines.proofs.texts.numbered.Goals as goal

pub returns : goal.returns
returns g c =
    numbered g.row.N c.args.end c.copy_from_slice.new.self c.copy_from_slice-2.new.self (search rules) (search rules)
    ∙ ap (λ (l : List ℕ). l ++ (32 ∷ (c.copy_from_slice-2.new.self ++ replicate (g.row.N - 21) c.args.end))) (c.copy_from_slice.ensures.after ∙ c.location_text.ensures)
    ∙ ap (λ (l : List ℕ). four_digits c.args.location ++ (32 ∷ (l ++ replicate (g.row.N - 21) c.args.end))) (c.copy_from_slice-2.ensures.after ∙ c.word_text.ensures)
