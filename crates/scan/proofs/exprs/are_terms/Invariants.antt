use Rattle.std.proofs.Common.{◌≡◌, length, is_some}
use Rattle.scan.specs.Terms.{more_of}
use Rattle.scan.proofs.exprs.are_terms.Given as goal

abbrev pub invariant-loop-rest : goal.invariant-loop-rest
invariant-loop-rest l = is_some (more_of l.rest) ≡ is_some (more_of l.text)

abbrev pub decreases-loop-rest : goal.decreases-loop-rest
decreases-loop-rest l = length l.rest
