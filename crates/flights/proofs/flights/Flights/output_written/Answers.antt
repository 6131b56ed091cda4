use Rattle.std.proofs.Common.{sym, ap, ◌∙◌, arith}
use Rattle.cpu.specs.Executed.{locations}
use Rattle.flights.specs.Flights.{opened, states_in}
use Rattle.flights.specs.Watch.{writes_output}
use Rattle.flights.proofs.Watching.{none_yet, none_more, found_at, none_found}
use Rattle.flights.proofs.flights.Flights.output_written.Goals as goal

pub loop-number-init : goal.loop-number-init
loop-number-init c = none_yet _

pub returns-then-is_written : goal.returns-then-is_written
returns-then-is_written c =
    found_at (λ u. writes_output (locations c.args.writes) (opened (states_in c.args.self.now.states u))) 19 c.loop-number.number (omega arith) c.loop-number.invariant (sym (c.is_written.ensures ∙ ap (λ s. writes_output (locations c.args.writes) (opened s)) c.at.ensures) ∙ c.if-is_written.true)

pub loop-number-preserved : goal.loop-number-preserved
loop-number-preserved c = none_more c.loop-number.number _ c.loop-number.invariant (sym (c.is_written.ensures ∙ ap (λ s. writes_output (locations c.args.writes) (opened s)) c.at.ensures) ∙ c.if-is_written.false)

pub returns : goal.returns
returns c = none_found _ 19 c.loop-number.number (omega arith) c.loop-number.invariant
