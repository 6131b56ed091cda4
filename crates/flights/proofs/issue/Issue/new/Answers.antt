use Rattle.rack.specs.Units.{kind_of}
use Rattle.flights.proofs.Bounds.{kind_unit}
use Rattle.flights.proofs.Present.{issue_fits, present_kind}
use Rattle.flights.proofs.issue.Issue.new.Goals as goal

pub invariant_of-result : goal.invariant_of-result
invariant_of-result g c =
    let u = c.args.unit in
    let k = c.in_ok-kind.kind in
    let i = present_kind c.args.location u (g.R.Rack.holds c.args.rack.now u.number) (kind_of u.number) k c.in_ok-kind.ensures in
    record {
      known = kind_unit u.number k i;
      fits = issue_fits u.number k c.args.transfer c.args.from c.in_ok-area.area c.args.location i c.in_ok-area.ensures;
    }
