use Rattle.std.proofs.Common.{◌≡◌, length}
use Rattle.scan.specs.Address.{pieces_of}
use Rattle.wvalues.specs.Pieces.{pieces_readable}
use Rattle.wvalues.proofs.pieces.is_w_value.Given as goal

abbrev pub invariant-loop-piece : goal.invariant-loop-piece
invariant-loop-piece l = pieces_readable (pieces_of l.rest) ≡ pieces_readable (pieces_of l.text)

abbrev pub decreases-loop-piece : goal.decreases-loop-piece
decreases-loop-piece l = length l.rest
