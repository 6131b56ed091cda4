use Rattle.std.proofs.Common.{not, ◌&&◌, ◌==◌, sym, ◌∙◌, arith}
use Rattle.flights.specs.Flights.{opened, states_in}
use Rattle.flights.specs.Watch.{meets}
use Rattle.flights.proofs.Watching.{none_yet, none_more, found_at, none_found}
use Rattle.flights.proofs.flights.Flights.area_met.Goals as goal

pub loop-number-init : goal.loop-number-init
loop-number-init c = none_yet _

pub returns-then-is_other_met : goal.returns-then-is_other_met
returns-then-is_other_met c =
    found_at (λ v. not (v == c.args.unit.number) && meets c.args.flight (opened (states_in c.args.self.now.states v))) 19 c.loop-number.number (omega arith) c.loop-number.invariant (sym (c.is_other_met.ensures) ∙ c.if-is_other_met.true)

pub loop-number-preserved : goal.loop-number-preserved
loop-number-preserved c = none_more c.loop-number.number _ c.loop-number.invariant (sym (c.is_other_met.ensures) ∙ c.if-is_other_met.false)

pub returns : goal.returns
returns c = none_found _ 19 c.loop-number.number (omega arith) c.loop-number.invariant
