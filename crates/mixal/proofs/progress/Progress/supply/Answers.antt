use Rattle.std.proofs.Common.{◌+◌, List, drop, sym, ap, ◌∙◌, arith}
use Rattle.mixal.specs.Ends.{supplied}
use Rattle.mixal.specs.Model.{progress_of}
use Rattle.std.proofs.lemmas.List.{at_drop_more}
use Rattle.table.specs.declared.name.Name.{Name}
use Rattle.mixal.proofs.progress.Progress.supply.Goals as goal

pub loop-name-preserved : goal.loop-name-preserved
loop-name-preserved c =
    let s = progress_of c.loop-name.self c.args.awaited.now in
    let e = c.in_ok-supply_one.ensures in (
      omega (arith, e.step, c.loop-name.invariant.0),
      ap (supplied c.args.loc (drop (c.loop-name.name-index + 1) c.args.awaited.now)) (e.state c.args.awaited.now)
          ∙ sym (at_drop_more (λ (ns : List Name). supplied c.args.loc ns s) c.args.awaited.now c.loop-name.name-index _ c.loop-name-test.true)
          ∙ c.loop-name.invariant.1,
    )
