use Rattle.std.proofs.Common.{◌≡◌, length}
use Rattle.scan.specs.Address.{pieces_of}
use Rattle.symbols.specs.Symbols.{entries}
use Rattle.wvalues.specs.Pieces.{stored_by}
use Rattle.wvalues.proofs.pieces.w_value.Given as goal

abbrev pub invariant-loop-piece : goal.invariant-loop-piece
invariant-loop-piece l = stored_by (entries l.scope.symbols.now) l.scope.here l.word (pieces_of l.rest) ≡ stored_by (entries l.scope.symbols.now) l.scope.here l.initial.word (pieces_of l.text)

abbrev pub decreases-loop-piece : goal.decreases-loop-piece
decreases-loop-piece l = length l.rest
