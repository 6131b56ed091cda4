use Rattle.std.proofs.lemmas.Result.{IfOk-weaker}
use Rattle.console.specs.Calls.{room_model}
use Rattle.mixal.specs.Model.{assembled}
use Rattle.room_jobs.proofs.Rooms.{rooms_told}
use Rattle.room_jobs.proofs.reports.rooms_text.Goals as goal

pub returns : goal.returns
returns g c = λ u d e.
    let first = g.R.Rack.holds in
    let second = g.S.Rack.holds in
    let rooms = c.two_rooms-first.result in
    IfOk-weaker c.compared_text.result _ _
    (λ v f. rooms_told first g.R.Rack.tells second g.S.Rack.tells c.requires.times (assembled c.args.deck.now) (first c.args.first) (second c.args.second) u (room_model first rooms.0) (room_model second rooms.1) v.items c.in_ok-of.field-0 c.in_ok-of-2.field-0 d e c.two_rooms-first.ensures.first c.two_rooms-first.ensures.second c.two_rooms-first.ensures.sheets c.in_ok-of.ensures c.in_ok-of-2.ensures f)
    c.compared_text.ensures
