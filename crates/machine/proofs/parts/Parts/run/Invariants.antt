use Rattle.machine.specs.Model.{stands}
use Rattle.machine.specs.Runs.{Steps}
use Rattle.machine.proofs.parts.Parts.run.Given as goal

abbrev pub invariant-loop-step : goal.invariant-loop-step
invariant-loop-step g l = Steps g.R.Rack.holds g.R.Rack.tells l._step (stands g.R.Rack.holds l.initial.self) (stands g.R.Rack.holds l.self)
