use Rattle.std.proofs.Common.{◌≡◌}
use Rattle.flights.specs.Flights.{first_due, states_in}
use Rattle.flights.specs.Stands.{next_of}
use Rattle.flights.proofs.flights.Flights.first_due.Given as goal

abbrev pub invariant-loop-number : goal.invariant-loop-number
invariant-loop-number l = next_of l.found ≡ first_due l.number l.by (states_in l.self.states)
