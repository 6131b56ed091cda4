use Rattle.std.proofs.Common.{◌≡◌, ◌+◌, ◌≤◌, drop}
use Rattle.mixal.specs.Ends.{supplied}
use Rattle.mixal.specs.Model.{progress_of}
use Rattle.mixal.proofs.progress.Progress.supply.Given as goal

abbrev pub invariant-loop-name : goal.invariant-loop-name
invariant-loop-name l =
    (l.self.here ≤ l.initial.self.here + l.name-index)
    × (supplied l.loc (drop l.name-index l.awaited) (progress_of l.self l.awaited) ≡ supplied l.loc l.awaited (progress_of l.initial.self l.awaited))
