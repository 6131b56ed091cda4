use Rattle.std.proofs.Common.{◌≡◌, length}
use Rattle.card.specs.Lines.{trimmed}
use Rattle.card.proofs.lines.trim.Given as goal

abbrev pub invariant-loop-rest : goal.invariant-loop-rest
invariant-loop-rest l = trimmed l.rest ≡ trimmed l.text

abbrev pub decreases-loop-rest : goal.decreases-loop-rest
decreases-loop-rest l = length l.rest
