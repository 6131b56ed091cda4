use Rattle.std.proofs.Common.{◌≡◌, ◌-◌, length, take, drop, replicate}
use Rattle.card.specs.Text.{text_codes}
use Rattle.card.proofs.Parts.{ahead}
use Rattle.card.proofs.words.codes_of.Given as goal

abbrev pub invariant-loop-i : goal.invariant-loop-i
invariant-loop-i g l =
    (length l.codes ≡ g.row.N) × (drop l.i l.codes ≡ replicate (g.row.N - l.i) 0) × (ahead (take l.i l.codes) (text_codes (drop l.i l.text)) ≡ text_codes l.text)
