use Rattle.std.proofs.Common.{sym, subst, arith}
use Rattle.flights.specs.Flights.{drain, states_in, units}
use Rattle.flights.specs.Stands.{DrainedTo, core_in}
use Rattle.flights.proofs.Drains.{drain_none, none_due}
use Rattle.flights.proofs.flights.Flights.catch_up.Goals as goal

pub returns-then-by-self-clause-core : goal.returns-then-by-self-clause-core
returns-then-by-self-clause-core g c = λ r.
    let m = c.args.self.now in
    drain_none 0 c.args.by (omega arith) (core_in r c.args.memory.now (g.R.Rack.holds c.args.rack.now) m.states)
    (none_due units c.args.by m.soonest (states_in m.states) c.if-by-self.true m.early)

pub returns-clause-core : goal.returns-clause-core
returns-clause-core g c = λ r.
    let m = c.args.self.now in
    let o = c.drain-outcome in
    subst (λ xs. DrainedTo (drain units c.args.by (core_in r c.args.memory.now (g.R.Rack.holds c.args.rack.now) m.states)) (core_in r o.new.memory (g.R.Rack.holds o.new.rack) xs) o.result)
    (sym c.refresh.ensures) (o.ensures.core r)
