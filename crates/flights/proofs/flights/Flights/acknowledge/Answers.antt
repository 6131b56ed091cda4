use Rattle.std.proofs.Common.{◌≤◌, length, sym, arith}
use Rattle.flights.specs.Flights.{states_in}
use Rattle.flights.specs.declared.flight.UnitState.TheVariants.{Idle}
use Rattle.flights.proofs.States.{states_past, with_it}
use Rattle.flights.proofs.flights.Flights.acknowledge.Goals as goal

pub returns-else-unit-lt19 : goal.returns-else-unit-lt19
returns-else-unit-lt19 c =
    let m = c.args.self.now in
    let l : length m.states ≤ c.args.unit.number = omega (arith, m.all) in
    sym (with_it (states_in m.states) c.args.unit.number Idle (states_past m.states c.args.unit.number l))
