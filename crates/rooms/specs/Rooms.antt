-- What any two rooms have in common, whatever times their racks tell.
use Rattle.std.specs.Prelude.{◌≡◌, ℕ, ◌+◌, ◌≤◌, true, List, None}
use Rattle.machine.specs.Runs.{Session}
use Rattle.machine.specs.Steps.{State}
use Rattle.machine.specs.declared.call.Call.{Call}
use Rattle.flights.specs.declared.fault.Fault.{Fault}
use Rattle.flights.specs.declared.flight.UnitState.TheVariants.{Idle}
use Rattle.machine.specs.declared.phase.Phase.TheVariants.{Running, Halted, Faulted}
use Rattle.rack.specs.Units.{Holdings}
use Rattle.rack.specs.declared.request.Request.{Request}

-- a machine before its first step
pub record Fresh (s : State) : Type 0 where
  pub idle : (u : ℕ) → s.core.states u ≡ Idle
  pub clock : s.counts.clock ≡ 0
  pub working_time : s.counts.working_time ≡ 0
  pub waiting : s.counts.waiting ≡ 0
  pub told : s.counts.told ≡ 0
  pub granted : s.counts.granted ≡ 0
  pub working_steps : s.counts.working_steps ≡ 0
  pub waiting_steps : s.counts.waiting_steps ≡ 0
  pub mark : s.mark ≡ None
  pub phase : s.phase ≡ Running

-- Second follows a First that halted without a mark: it has no fault and no mark, and it has halted once the
-- steps granted there reach First's working steps plus the time told to Second
pub record Follows (s t : State) : Type 0 where
  pub no_fault : (f : Fault) → t.phase ≡ Faulted f → ⊥
  pub no_mark : t.mark ≡ None
  pub halts : s.counts.working_steps + t.counts.told ≤ t.counts.granted → t.phase ≡ Halted

-- both have halted, First without a mark: they agree in all that is filed but the clock and the waiting, and in
-- J where it is settled
pub record Agree (s t : State) : Type 0 where
  pub memory : (l : ℕ) → s.core.memory l ≡ t.core.memory l
  pub registers : s.core.registers ≡ t.core.registers
  pub units : (u : ℕ) → s.core.units u ≡ t.core.units u
  pub working_steps : s.counts.working_steps ≡ t.counts.working_steps
  pub working_time : s.counts.working_time ≡ t.counts.working_time
  pub settled : s.j.settled ≡ t.j.settled
  pub j : s.j.settled ≡ true → s.j.location ≡ t.j.location

-- in a room the clock is working time and waiting, and the waiting is at most the time told there
pub record Kept (s : State) : Type 0 where
  pub clock : s.counts.clock ≡ s.counts.working_time + s.counts.waiting
  pub waiting : s.counts.waiting ≤ s.counts.told

-- what holds of First and Second
pub record Both (s t : State) : Type 0 where
  pub follows : s.phase ≡ Halted → s.mark ≡ None → Follows s t
  pub agree : s.phase ≡ Halted → s.mark ≡ None → t.phase ≡ Halted → Agree s t
  pub first : Kept s
  pub second : Kept t

-- the law, for two kinds of racks: one machine, and in each of two rooms a list of calls, the times of each
-- being told by its rack
abbrev pub TwoRooms : {R S : Type 0} → (R → Holdings) → (R → Request → ℕ) → (S → Holdings) → (S → Request → ℕ) → Type 0
TwoRooms holds tells holds′ tells′ =
    (fresh s t : State) (cs ds : List Call)
    → Fresh fresh
    → Session holds tells cs fresh s
    → Session holds′ tells′ ds fresh t
    → Both s t
