use Rattle.std.proofs.Common.{arith}
use Rattle.rack.proofs.Fronts.{filled_front}
use Rattle.rack.proofs.areas.fill.Goals as goal

pub returns : goal.returns
returns c = rw c.copy_from_slice.ensures.after (filled_front c.args.area.now c.args.block.now c.min-count.result (omega arith))
