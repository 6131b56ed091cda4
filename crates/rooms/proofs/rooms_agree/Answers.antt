use Rattle.std.proofs.Common.{sym, subst}
use Rattle.machine.specs.Model.{model}
use Rattle.machine.specs.Runs.{Session}
use Rattle.rooms.proofs.Rooms.{two_rooms}
use Rattle.rooms.proofs.rooms_agree.Goals as goal

pub returns : goal.returns
returns g c = λ m₀ m n₀ n cs ds fresh same first second.
    two_rooms g.R.Rack.holds g.R.Rack.tells g.S.Rack.holds g.S.Rack.tells (model g.R.Rack.holds m₀) (model g.R.Rack.holds m) (model g.S.Rack.holds n) cs ds fresh first
    (subst (λ s. Session g.S.Rack.holds g.S.Rack.tells ds s (model g.S.Rack.holds n)) (sym same) second)
