use Rattle.std.proofs.Common.{arith}
use Rattle.console.proofs.Making.{rest_more}
use Rattle.console.specs.Calls.{loaded_model, room_model}
use Rattle.console.proofs.loaded.Loaded.make.Goals as goal

pub loop-call-preserved : goal.loop-call-preserved
loop-call-preserved g c =
    let l = c.loop-call in
    let h = g.R.Rack.holds in
    rest_more h g.R.Rack.tells c.args.calls.now l.call-index _ (loaded_model h c.args.self) (room_model h l.room) (room_model h c.after-room.result) (omega arith) l.invariant c.after-room.ensures
