use Rattle.std.proofs.Common.{◌≡◌, ℕ, sym, ap, ◌∙◌, add-one, arith}
use Rattle.console.specs.Calls.{loaded_model}
use Rattle.jobs.specs.Jobs.{runs_of, time_of}
use Rattle.jobs.specs.Runs.{run_at}
use Rattle.jobs.proofs.Known.{ran_at}
use Rattle.jobs.proofs.outcomes.make_runs.Goals as goal

pub loop-run-preserved : goal.loop-run-preserved
loop-run-preserved g c =
    let l = c.loop-run in
    let h = g.R.Rack.holds in
    ran_at h g.R.Rack.tells time_of c.requires.times 1000000 (loaded_model h l.loaded) (loaded_model h c.run.new.self) c.run.ensures.ran
    ∙ ap (run_at time_of 1000000) l.invariant
    ∙ ap (λ (n : ℕ). runs_of n (loaded_model h c.args.loaded.now)) (sym (add-one l._run))

pub returns : goal.returns
returns g c =
    let n : c.loop-run._run ≡ 10 = omega arith in
    c.loop-run.invariant ∙ ap (λ (n : ℕ). runs_of n (loaded_model g.R.Rack.holds c.args.loaded.now)) n
