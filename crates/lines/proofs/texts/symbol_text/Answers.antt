use Rattle.std.proofs.Common.{ℕ, List, [], ◌∷◌, ◌++◌, map, ap, ◌∙◌, rules}
use Rattle.card.specs.Table.{character_of}
use Rattle.lines.specs.Lines.{symbol_line}
use Rattle.lines.proofs.Ends.{behind}
use Rattle.lines.proofs.texts.symbol_text.Goals as goal

pub returns : goal.returns
unfolding symbol_line
returns c =
    ap (λ (l : List ℕ). 83 ∷ 32 ∷ l) (behind 1 16 c.copy_from_slice.new.self _ c.copy_from_slice-2.new.self 11 (search rules))
    ∙ ap (λ (l : List ℕ). 83 ∷ 32 ∷ (l ++ (32 ∷ (c.copy_from_slice-2.new.self ++ (10 ∷ []))))) (c.copy_from_slice.ensures.after ∙ c.spelled.ensures.text)
    ∙ ap (λ (l : List ℕ). 83 ∷ 32 ∷ (map character_of c.args.name ++ (32 ∷ (l ++ (10 ∷ []))))) (c.copy_from_slice-2.ensures.after ∙ c.word_text.ensures)
