use Rattle.std.proofs.Common.{◌++◌, List, ℕ, ap, ◌∙◌, vec_items}
use Rattle.rack.specs.Units.{columns, text_of_unit}
use Rattle.sheet.specs.Sheet.{block_line}
use Rattle.sheet.proofs.Rows.{rows_step}
use Rattle.sheet.proofs.blocks.add_blocks.Goals as goal

pub loop-block-preserved : goal.loop-block-preserved
loop-block-preserved g c =
    rows_step (λ p. block_line c.args.letter (columns (text_of_unit c.args.unit.number (g.R.Rack.holds c.args.rack.now c.args.unit.number) p))) c.loop-block.block _ _ _ c.loop-block.invariant
    (c.in_ok-add_block.ensures ∙ ap (λ (l : List ℕ). vec_items c.loop-block.out ++ block_line c.args.letter l) c.text.ensures)
