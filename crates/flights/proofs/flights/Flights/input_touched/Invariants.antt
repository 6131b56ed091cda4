use Rattle.std.proofs.Common.{◌≡◌, ◌∷◌, None}
use Rattle.cpu.specs.Executed.{locations}
use Rattle.flights.specs.Flights.{opened, states_in}
use Rattle.flights.specs.Watch.{first_unit, touches_input}
use Rattle.flights.proofs.flights.Flights.input_touched.Given as goal

abbrev pub invariant-loop-number : goal.invariant-loop-number
invariant-loop-number l =
    first_unit l.number (λ u. touches_input (l.location ∷ locations l.reads) (locations l.writes) (opened (states_in l.self.states u))) ≡ None
