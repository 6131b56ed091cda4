use Rattle.std.proofs.Common.{sym, ap, ◌∙◌, ap₂, arith, ◌≡◌}
use Rattle.flights.specs.Flights.{last_due, later, states_in, units}
use Rattle.flights.proofs.Bounds.{last_none, last_more}
use Rattle.flights.proofs.flights.Flights.last_due.Goals as goal

pub loop-number-init : goal.loop-number-init
loop-number-init c = last_none _ _

pub loop-number-preserved : goal.loop-number-preserved
loop-number-preserved c =
    c.later-last.ensures ∙ ap₂ later c.loop-number.invariant c.at.ensures ∙ sym (last_more c.loop-number.number c.args.time (states_in c.args.self.now.states))

pub returns : goal.returns
returns c =
    let e : c.loop-number.number ≡ units = omega arith in
    c.loop-number.invariant ∙ ap (λ n. last_due n c.args.time (states_in c.args.self.now.states)) e
