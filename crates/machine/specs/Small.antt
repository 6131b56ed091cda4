-- Counts that leave room for a step, and that stay so.
use Rattle.std.specs.Prelude.{◌≡◌, ℕ, ◌*◌, ◌^◌, ◌<◌, ◌≤◌}
use Rattle.flights.specs.Flights.{later, units}
use Rattle.flights.specs.declared.flight.UnitState.TheVariants.{Idle}
use Rattle.machine.specs.Bounds.{Clocks, Dues, Used}
use Rattle.machine.specs.Steps.{State}
use Rattle.machine.specs.declared.counts.Counts.{Counts}

-- the counts are below a bound, and the time told is below 2^64 times that
pub record Small (b : ℕ) (n : Counts) : Type 0 where
  pub clock : n.clock < b
  pub working_time : n.working_time < b
  pub waiting : n.waiting < b
  pub told : n.told < b * 2 ^ 64
  pub working_steps : n.working_steps < b
  pub waiting_steps : n.waiting_steps < b

-- and what is under way is due below it
pub record Low (b : ℕ) (s : State) : Type 0 where
  pub counts : Small b s.counts
  pub dues : (u : ℕ) → later s.counts.clock (s.core.states u) < b

-- all of it, of a machine whose units have the numbers below 19
pub record Sane (s : State) : Type 0 where
  pub clocks : Clocks s.counts
  pub used : Used s.counts s.phase
  pub dues : Dues s.counts s.core.states
  pub beyond : (u : ℕ) → units ≤ u → s.core.states u ≡ Idle
