use Rattle.console.proofs.Making.{one_deck}
use Rattle.console.proofs.both_rooms.calls_agree.Goals as goal

pub returns : goal.returns
returns g c = one_deck g.R.Rack.holds g.R.Rack.tells g.S.Rack.holds g.S.Rack.tells
