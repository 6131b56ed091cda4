use Rattle.std.proofs.Common.{◌≡◌, ◌++◌, vec_items}
use Rattle.std.specs.List.{flat_map}
use Rattle.cpu.specs.Executed.{row}
use Rattle.rack.specs.Units.{columns, text_of_unit}
use Rattle.sheet.specs.Sheet.{block_line}
use Rattle.sheet.proofs.blocks.add_blocks.Given as goal

abbrev pub invariant-loop-block : goal.invariant-loop-block
invariant-loop-block g l =
    vec_items l.out
    ≡ vec_items l.initial.out ++ flat_map (λ p. block_line l.letter (columns (text_of_unit l.unit.number (g.R.Rack.holds l.rack l.unit.number) p))) (row 0 l.block)
