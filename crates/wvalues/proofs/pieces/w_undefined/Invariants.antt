use Rattle.std.proofs.Common.{◌≡◌, true, length}
use Rattle.scan.specs.Address.{pieces_of}
use Rattle.symbols.specs.Symbols.{entries}
use Rattle.wvalues.specs.Pieces.{pieces_readable, pieces_undefined}
use Rattle.wvalues.proofs.pieces.w_undefined.Given as goal

abbrev pub invariant-loop-piece : goal.invariant-loop-piece
invariant-loop-piece l = pieces_readable (pieces_of l.text) ≡ true → (pieces_readable (pieces_of l.rest) ≡ true) × (pieces_undefined (entries l.symbols) (pieces_of l.rest) ≡ pieces_undefined (entries l.symbols) (pieces_of l.text))

abbrev pub decreases-loop-piece : goal.decreases-loop-piece
decreases-loop-piece l = length l.rest
