use Rattle.mixal.specs.Model.{assembled}
use Rattle.console.proofs.Loading.{Filled}
use Rattle.console.proofs.calls.memory.Given as goal

abbrev pub invariant-loop-location : goal.invariant-loop-location
invariant-loop-location l = Filled (assembled l.deck) l.memory l.location
