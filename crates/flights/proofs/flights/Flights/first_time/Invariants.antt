use Rattle.std.proofs.Common.{◌≡◌, ℕ, ◌<◌, true}
use Rattle.flights.specs.Flights.{states_in}
use Rattle.flights.specs.Kept.{due_from}
use Rattle.flights.proofs.flights.Flights.first_time.Given as goal

abbrev pub invariant-loop-number : goal.invariant-loop-number
invariant-loop-number l = (u : ℕ) → u < l.number → due_from l.first (states_in l.self.states u) ≡ true
