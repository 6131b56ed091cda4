-- A machine in a room whose times are known.
use Rattle.std.specs.Prelude.{ℕ, zero, suc, Some, None, Option}
use Rattle.machine.specs.Runs.{refused, granting}
use Rattle.machine.specs.Steps.{State, Step, step}
use Rattle.machine.specs.Steps.Step.{ready, asks}
use Rattle.machine.specs.declared.phase.RunRefusal.{RunRefusal}
use Rattle.rack.specs.declared.request.Request.{Request}

-- what a step comes to, where the times are known
abbrev pub resolved : (Request → ℕ) → Step → State
resolved time (ready s) = s
resolved time (asks q h k) = k (time q)

-- n steps
abbrev pub steps_at : (Request → ℕ) → ℕ → State → State
steps_at time zero s = s
steps_at time (suc n) s = steps_at time n (resolved time (step s))

-- a run of b steps, or none where it is refused
abbrev pub run_if : (Request → ℕ) → ℕ → State → Option RunRefusal → State
run_if time b s None = steps_at time b (granting b s)
run_if time b s (Some r) = s

unfoldable pub run_at : (Request → ℕ) → ℕ → State → State
run_at time b s = run_if time b s (refused b s)

-- n runs of b steps; those after a halt or a fault are refused
abbrev pub runs_at : (Request → ℕ) → ℕ → ℕ → State → State
runs_at time b zero s = s
runs_at time b (suc n) s = run_at time b (runs_at time b n s)
