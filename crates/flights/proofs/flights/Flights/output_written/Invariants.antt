use Rattle.std.proofs.Common.{◌≡◌, None}
use Rattle.cpu.specs.Executed.{locations}
use Rattle.flights.specs.Flights.{opened, states_in}
use Rattle.flights.specs.Watch.{first_unit, writes_output}
use Rattle.flights.proofs.flights.Flights.output_written.Given as goal

abbrev pub invariant-loop-number : goal.invariant-loop-number
invariant-loop-number l = first_unit l.number (λ u. writes_output (locations l.writes) (opened (states_in l.self.states u))) ≡ None
