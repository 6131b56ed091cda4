use Rattle.std.proofs.Common.{ℕ, ◌+◌, List, [], ◌++◌, get_or, take, drop, sym, subst, ◌∙◌, arith}
use Rattle.std.proofs.lemmas.List.{append-nil, drop_all, take_all}
use Rattle.paper.specs.Cards.{CutAfter}
use Rattle.paper.proofs.Fronting.{cut_none, cut_all, cut_ended, cut_grown, cut_more}
use Rattle.paper.proofs.fronts.first_cards.Goals as goal
use Rattle.paper.proofs.fronts.first_cards.Goals.{then-b-eq10, else-b-eq10}

pub returns-then-left-eq0 : goal.returns-then-left-eq0
returns-then-left-eq0 c =
    let bs = c.args.text.now in
    let i = c.loop-i.i in
    let n = c.args.count in
    subst (λ (l : List ℕ). CutAfter n bs l c.split_at.result.1.now) (append-nil (take i bs) ∙ sym c.split_at.ensures.front)
    (subst (λ (l : List ℕ). CutAfter n bs (take i bs ++ []) l) (sym c.split_at.ensures.back)
    (c.loop-i.invariant [] (drop i bs) (subst (λ (m : ℕ). CutAfter m (drop i bs) [] (drop i bs)) (sym c.if-left-eq0.true) (cut_none (drop i bs)))))

pub loop-i-preserved : goal.loop-i-preserved
loop-i-preserved c xs ys h =
    let bs = c.args.text.now in
    let i = c.loop-i.i in
    cut_more i c.args.count c.loop-i.left bs xs ys c.loop-i-test.true c.loop-i.invariant
    (elim c.if-b-eq10.branch [
      | then-b-eq10 w ↦ cut_ended (get_or bs i 0) c.loop-i.left c.if-b-eq10.left (drop (i + 1) bs) xs ys c.if-left-eq0.false w.left-is w.if-b-eq10.true h
      | else-b-eq10 w ↦ cut_grown (get_or bs i 0) c.loop-i.left c.if-b-eq10.left (drop (i + 1) bs) xs ys c.if-left-eq0.false w.left-is w.if-b-eq10.false h
    ])

pub returns : goal.returns
returns c =
    let bs = c.args.text.now in
    let i = c.loop-i.i in
    subst (λ (l : List ℕ). CutAfter c.args.count bs l []) (append-nil (take i bs) ∙ take_all i bs (omega arith))
    (c.loop-i.invariant [] [] (subst (λ (l : List ℕ). CutAfter c.loop-i.left l [] []) (sym (drop_all i bs (omega arith))) (cut_all c.loop-i.left)))
