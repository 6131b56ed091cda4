use Rattle.std.proofs.Common.{◌≡◌, length}
use Rattle.card.proofs.Blocks.{Worded}
use Rattle.card.proofs.cards.words_in.Given as goal

abbrev pub invariant-loop-i : goal.invariant-loop-i
invariant-loop-i l = (length l.words ≡ 16) × Worded l.fives l.words l.i
