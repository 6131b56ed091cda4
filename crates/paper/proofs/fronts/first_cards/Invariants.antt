use Rattle.std.proofs.Common.{ℕ, List, ◌++◌, take, drop}
use Rattle.paper.specs.Cards.{CutAfter}
use Rattle.paper.proofs.fronts.first_cards.Given as goal

-- what cuts the rest cuts the text
abbrev pub invariant-loop-i : goal.invariant-loop-i
invariant-loop-i l = (xs ys : List ℕ) → CutAfter l.left (drop l.i l.text) xs ys → CutAfter l.fn.count l.text (take l.i l.text ++ xs) ys
