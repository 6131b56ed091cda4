use Rattle.std.proofs.Common.{◌≡◌}
use Rattle.flights.specs.Flights.{last_due, states_in}
use Rattle.flights.proofs.flights.Flights.last_due.Given as goal

abbrev pub invariant-loop-number : goal.invariant-loop-number
invariant-loop-number l = l.last ≡ last_due l.number l.time (states_in l.self.states)
