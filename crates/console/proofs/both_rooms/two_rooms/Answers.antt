use Rattle.console.proofs.Making.{one_deck}
use Rattle.console.specs.Calls.{room_model}
use Rattle.mixal.specs.Model.{assembled}
use Rattle.console.proofs.both_rooms.two_rooms.Goals as goal

pub returns-clause-both : goal.returns-clause-both
returns-clause-both g c = λ e.
    (one_deck g.R.Rack.holds g.R.Rack.tells g.S.Rack.holds g.S.Rack.tells (assembled c.args.deck.now) (g.R.Rack.holds c.args.first) (g.S.Rack.holds c.args.second) c.args.first_calls.now c.args.second_calls.now (room_model g.R.Rack.holds c.in_room-first.result) (room_model g.S.Rack.holds c.in_room-second.result) e c.in_room-first.ensures c.in_room-second.ensures).both

pub returns-clause-sheets : goal.returns-clause-sheets
returns-clause-sheets g c = λ e.
    (one_deck g.R.Rack.holds g.R.Rack.tells g.S.Rack.holds g.S.Rack.tells (assembled c.args.deck.now) (g.R.Rack.holds c.args.first) (g.S.Rack.holds c.args.second) c.args.first_calls.now c.args.second_calls.now (room_model g.R.Rack.holds c.in_room-first.result) (room_model g.S.Rack.holds c.in_room-second.result) e c.in_room-first.ensures c.in_room-second.ensures).sheets
