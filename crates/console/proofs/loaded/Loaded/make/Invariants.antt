use Rattle.console.proofs.Making.{Rest}
use Rattle.console.specs.Calls.{room_model}
use Rattle.console.proofs.loaded.Loaded.make.Given as goal

abbrev pub invariant-loop-call : goal.invariant-loop-call
invariant-loop-call g l = Rest g.R.Rack.holds g.R.Rack.tells l.calls l.call-index (room_model g.R.Rack.holds l.initial.room) (room_model g.R.Rack.holds l.room)
