use Rattle.std.proofs.Common.{◌≡◌, take, vec_items}
use Rattle.console.proofs.faults.told_of.Given as goal

abbrev pub invariant-loop-number : goal.invariant-loop-number
invariant-loop-number l = vec_items l.told ≡ take l.number-index l.number-items
