use Rattle.std.proofs.Common.{◌≡◌, None, not, ◌&&◌, ◌==◌}
use Rattle.flights.specs.Flights.{opened, states_in}
use Rattle.flights.specs.Watch.{first_unit, meets}
use Rattle.flights.proofs.flights.Flights.area_met.Given as goal

abbrev pub invariant-loop-number : goal.invariant-loop-number
invariant-loop-number l = first_unit l.number (λ v. not (v == l.unit.number) && meets l.flight (opened (states_in l.self.states v))) ≡ None
