use Rattle.std.proofs.Common.{◌≡◌, true, length, is_some}
use Rattle.eval.specs.Eval.{any_unknown_in}
use Rattle.scan.specs.Terms.{more_of}
use Rattle.symbols.specs.Symbols.{entries}
use Rattle.eval.proofs.exprs.any_unknown.Given as goal

abbrev pub invariant-loop-term : goal.invariant-loop-term
invariant-loop-term l = is_some (more_of l.text) ≡ true → (is_some (more_of l.rest) ≡ true) × (any_unknown_in (entries l.symbols) (more_of l.rest) ≡ any_unknown_in (entries l.symbols) (more_of l.text))

abbrev pub decreases-loop-term : goal.decreases-loop-term
decreases-loop-term l = length l.rest
