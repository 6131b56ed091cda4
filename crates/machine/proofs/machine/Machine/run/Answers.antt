use Rattle.std.proofs.Common.{◌≤◌, length, arith}
use Rattle.flights.proofs.States.{states_past}
use Rattle.machine.specs.Model.{stands}
use Rattle.machine.specs.Small.{Sane}
use Rattle.machine.proofs.Running.{kept_run}
use Rattle.machine.proofs.machine.Machine.run.Goals as goal

pub run-requires-clause-sane : goal.run-requires-clause-sane
run-requires-clause-sane g c =
    let m = c.args.self.now in
    record {
      clocks = m.clocks;
      used = m.used;
      dues = m.dues;
      beyond = λ u l. let k : length m.parts.flights.states ≤ u = omega (arith, m.parts.flights.all) in states_past m.parts.flights.states u k;
    }

pub invariant_of-self : goal.invariant_of-self
invariant_of-self g c =
    let m = c.args.self.now in
    let h = g.R.Rack.holds in
    let sane : Sane (stands h m.parts) = record {
      clocks = m.clocks;
      used = m.used;
      dues = m.dues;
      beyond = λ u l. let k : length m.parts.flights.states ≤ u = omega (arith, m.parts.flights.all) in states_past m.parts.flights.states u k;
    } in
    let k = kept_run h g.R.Rack.tells g.met.R.Rack.bounded c.args.budget (stands h m.parts) (stands h c.run.new.self) sane c.run.ensures in
    record { clocks = k.0; used = k.1; dues = k.2 }
