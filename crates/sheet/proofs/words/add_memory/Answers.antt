use Rattle.std.proofs.Common.{◌++◌, List, ℕ, ap, ◌∙◌, arith, vec_items}
use Rattle.cpu.specs.Executed.{cells}
use Rattle.word.specs.declared.word.Word.{Word}
use Rattle.sheet.specs.Sheet.{memory_line_if}
use Rattle.sheet.proofs.Memory.{words_all, cell_read}
use Rattle.sheet.proofs.Rows.{rows_step}
use Rattle.sheet.proofs.words.add_memory.Goals as goal

pub loop-location-preserved : goal.loop-location-preserved
loop-location-preserved c =
    let m = cells c.args.memory.now in
    let l = c.loop-location.location in
    let w = c.index-memory-from.result in
    let e = cell_read c.args.memory.now l _ w c.from.ensures (omega arith) in
    rows_step (λ l. memory_line_if l (m l)) l _ _ _ c.loop-location.invariant (c.in_ok-add_cell.ensures ∙ ap (λ (w : Word). vec_items c.loop-location.out ++ memory_line_if l w) e)

pub returns : goal.returns
returns c = c.loop-location.invariant ∙ ap (λ (l : List ℕ). vec_items c.args.out.now ++ l) (words_all (cells c.args.memory.now) c.loop-location.location (omega arith))
