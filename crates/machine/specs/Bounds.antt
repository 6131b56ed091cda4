-- What holds of a machine's counts between any two calls, so that none of them can wrap.
use Rattle.std.specs.Prelude.{◌≡◌, ℕ, ◌+◌, ◌*◌, ◌≤◌}
use Rattle.flights.specs.Flights.{States, later}
use Rattle.machine.specs.declared.counts.Counts.{Counts}
use Rattle.machine.specs.declared.phase.Phase.{Phase}
use Rattle.machine.specs.declared.phase.Phase.TheVariants.{Running}

-- the clock is the working time and the waiting, and all waiting was told; a step takes one unit at least, and a
-- working step was told 65,535 at most
abbrev pub Clocks : Counts → Type 0
Clocks n =
    (n.clock ≡ n.working_time + n.waiting)
    × (n.waiting ≤ n.told)
    × (n.working_steps ≤ n.working_time)
    × (n.waiting_steps ≤ n.waiting)
    × (n.told ≤ 65535 * n.working_steps)

-- while a machine runs it has made all steps that were granted
abbrev pub Used : Counts → Phase → Type 0
Used n p = p ≡ Running → n.granted ≡ n.working_steps + n.waiting_steps

-- what is under way is due soon, and its time is among those told
abbrev pub Dues : Counts → States → Type 0
Dues n s = (u : ℕ) → (n.waiting + later n.clock (s u) ≤ n.told + n.clock) × (later n.clock (s u) ≤ n.clock + 65535)
