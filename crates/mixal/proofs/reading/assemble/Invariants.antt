use Rattle.std.proofs.Common.{◌≡◌, length}
use Rattle.card.specs.Lines.{cards_of}
use Rattle.mixal.specs.Assembled.{read_from, deck_of}
use Rattle.mixal.specs.Model.{model_of}
use Rattle.mixal.proofs.reading.assemble.Given as goal

abbrev pub invariant-loop-text : goal.invariant-loop-text
invariant-loop-text l = read_from (model_of l.assembly) (cards_of l.rest) ≡ deck_of l.text

abbrev pub decreases-loop-text : goal.decreases-loop-text
decreases-loop-text l = length l.rest
