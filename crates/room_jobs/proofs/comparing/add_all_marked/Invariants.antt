use Rattle.std.proofs.Common.{◌≡◌, ◌++◌, length}
use Rattle.std.specs.List.{flat_map}
use Rattle.room_jobs.specs.Differences.{lines_of, marked}
use Rattle.room_jobs.proofs.comparing.add_all_marked.Given as goal

-- what is written, and the lines that are left
abbrev pub invariant-loop-rest : goal.invariant-loop-rest
invariant-loop-rest l = l.out.items ++ flat_map (marked l.mark) (lines_of l.rest) ≡ l.initial.out.items ++ flat_map (marked l.mark) (lines_of l.initial.rest)

abbrev pub decreases-loop-rest : goal.decreases-loop-rest
decreases-loop-rest l = length l.rest
