use Rattle.std.proofs.Common.{◌≡◌, sym, ap, ◌∙◌}
use Rattle.console.specs.Calls.{loaded_model}
use Rattle.jobs.specs.Jobs.{outcome_in, outcome_of}
use Rattle.machine.specs.declared.status.Status.{Status}
use Rattle.room_jobs.proofs.Rooms.{stopped_compared, stopped_verdict}
use Rattle.room_jobs.proofs.outcomes.Outcome.stopped.Goals as goal

pub returns : goal.returns
returns g c =
    let s = loaded_model g.R.Rack.holds c.args.loaded.now in
    let phase = ap (λ (t : Status). t.phase) c.status.ensures in
    let line : c.in_ok-line.line.items ≡ outcome_of s =
    c.in_ok-line.ensures s (λ e. c.requires (sym phase ∙ e)) ∙ ap (outcome_in s) phase in
    (c.in_ok-from_slice.ensures.items ∙ c.deref.ensures.value ∙ line, line ∙ sym (stopped_compared s s.phase c.requires), c.new.ensures.items ∙ sym (stopped_verdict s s.phase c.requires))
