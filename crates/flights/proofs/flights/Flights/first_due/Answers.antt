use Rattle.std.proofs.Common.{◌≡◌, sym, ap, ap₂, ◌∙◌, arith}
use Rattle.flights.specs.Flights.{first_due, sooner, states_in, units}
use Rattle.flights.proofs.Drains.{due_none, due_more}
use Rattle.flights.proofs.flights.Flights.first_due.Goals as goal

pub loop-number-init : goal.loop-number-init
loop-number-init c = due_none _ _

pub loop-number-preserved : goal.loop-number-preserved
loop-number-preserved c =
    c.earlier-found.ensures ∙ ap₂ (λ b z. sooner c.args.by b c.loop-number.number z) c.loop-number.invariant c.at.ensures
    ∙ sym (due_more c.loop-number.number c.args.by (states_in c.args.self.now.states))

pub returns : goal.returns
returns c =
    let e : c.loop-number.number ≡ units = omega arith in
    c.loop-number.invariant ∙ ap (λ n. first_due n c.args.by (states_in c.args.self.now.states)) e
