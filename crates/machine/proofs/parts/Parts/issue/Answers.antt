use Rattle.std.proofs.Common.{Ok, ap, subst, ◌∙◌}
use Rattle.cpu.specs.Registers.{onward}
use Rattle.flights.specs.Flights.{drain, later, units}
use Rattle.machine.specs.Acts.{Launched, WaitedTo}
use Rattle.machine.specs.Model.{core_of, stands}
use Rattle.machine.proofs.Acting.{issue_at}
use Rattle.machine.proofs.parts.Parts.issue.Goals as goal

pub returns : goal.returns
returns g c =
    let m = c.args.self.now in
    let h = g.R.Rack.holds in
    let e = c.later-ready.ensures ∙ ap (later m.counts.clock) c.state.ensures in
    issue_at h g.R.Rack.tells _ c.in_ok-issue.issue c.args.time c.args.unit (stands h m) (stands h c.wait.new.self) (stands h c.launch.new.self) (core_of h m) (onward m.processor.registers) c.args.mark _
    c.in_ok-issue.ensures
    (subst (λ t. WaitedTo (drain units t (core_of h m)) t (stands h m) (stands h c.wait.new.self) (Ok c.in_ok-wait.field-0)) e c.in_ok-wait.ensures.machine)
    (subst (λ r. Launched h g.R.Rack.tells c.args.time c.in_ok-issue.issue.unit (onward r) c.args.mark c.in_ok-issue.issue.flight (stands h c.wait.new.self) (stands h c.launch.new.self)) c.in_ok-wait.ensures.registers c.launch.ensures)
