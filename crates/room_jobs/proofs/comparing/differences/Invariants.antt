use Rattle.std.proofs.Common.{◌≡◌, ◌+◌, ◌++◌, length}
use Rattle.room_jobs.specs.Differences.{differences}
use Rattle.room_jobs.proofs.comparing.differences.Given as goal

-- what is written, and the differences of what is left
abbrev pub invariant-loop-out : goal.invariant-loop-out
invariant-loop-out l = l.out.items ++ differences l.ours l.theirs ≡ differences l.first l.second

abbrev pub decreases-loop-out : goal.decreases-loop-out
decreases-loop-out l = length l.ours + length l.theirs
