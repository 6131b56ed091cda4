use Rattle.std.proofs.Common.{◌≡◌}
use Rattle.console.specs.Calls.{loaded_model}
use Rattle.jobs.specs.Jobs.{runs_of}
use Rattle.jobs.proofs.outcomes.make_runs.Given as goal

-- so many runs were made
abbrev pub invariant-loop-run : goal.invariant-loop-run
invariant-loop-run g l = loaded_model g.R.Rack.holds l.loaded ≡ runs_of l._run (loaded_model g.R.Rack.holds l.initial.loaded)
