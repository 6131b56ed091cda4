use Rattle.std.proofs.Common.{◌≡◌, ℕ, List, [], ◌++◌, length, sym, ap, ◌∙◌}
use Rattle.std.proofs.lemmas.List.{append-nil, nil_from_length}
use Rattle.std.proofs.lemmas.Bool.{eqb-true, eqb-false}
use Rattle.lines.proofs.Ends.{trimmed_none, trimmed_some}
use Rattle.lines.proofs.texts.trimmed_front.Goals as goal

pub returns-then-is_empty : goal.returns-then-is_empty
returns-then-is_empty c = λ xs e.
    let n : c.args.card.now ≡ [] = nil_from_length c.args.card.now (eqb-true (length c.args.card.now) 0 (sym c.if-is-empty.ensures)) in
    ap (λ (l : List ℕ). c.trim.result.now ++ l) n ∙ append-nil c.trim.result.now ∙ c.trim.ensures ∙ sym (trimmed_none c.args.front.now xs (sym e ∙ n))

pub returns-else-is_empty : goal.returns-else-is_empty
returns-else-is_empty c = λ xs e.
    ap (λ (l : List ℕ). c.args.front.now ++ l) e
    ∙ sym (trimmed_some c.args.front.now xs (λ n. eqb-false (length c.args.card.now) 0 (sym c.if-is-empty.ensures) (ap length (e ∙ n))))
