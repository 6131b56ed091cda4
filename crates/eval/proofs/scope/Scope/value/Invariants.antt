use Rattle.std.proofs.Common.{◌≡◌, length}
use Rattle.eval.specs.Eval.{worked_by, value_of}
use Rattle.scan.specs.Terms.{more_of}
use Rattle.symbols.specs.Symbols.{entries}
use Rattle.eval.proofs.scope.Scope.value.Given as goal

abbrev pub invariant-loop-rest : goal.invariant-loop-rest
invariant-loop-rest l = worked_by (entries l.self.symbols.now) l.self.here l.value (more_of l.rest) ≡ value_of (entries l.self.symbols.now) l.self.here l.text

abbrev pub decreases-loop-rest : goal.decreases-loop-rest
decreases-loop-rest l = length l.rest
