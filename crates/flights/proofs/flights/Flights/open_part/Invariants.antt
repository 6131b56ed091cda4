use Rattle.std.proofs.Common.{◌≡◌, ℕ, ◌<◌, true}
use Rattle.flights.specs.Flights.{opened, states_in}
use Rattle.flights.specs.Kept.{between}
use Rattle.flights.proofs.flights.Flights.open_part.Given as goal

abbrev pub invariant-loop-number : goal.invariant-loop-number
invariant-loop-number l = (u : ℕ) → u < l.number → between l.low l.high (opened (states_in l.self.states u)) ≡ true
