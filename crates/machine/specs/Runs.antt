-- Runs: which are accepted, and what they come to in a room.
use Rattle.std.specs.Prelude.{◌≡◌, ℕ, zero, suc, ◌+◌, ◌^◌, Bool, true, false, cond, not, ◌||◌, List, [], ◌∷◌, Some, None, Ok, Err, Option, Result, ◌==◌, nat_le, nat_lt}
use Rattle.rack.specs.Units.{Holdings}
use Rattle.rack.specs.declared.request.Request.{Request}
use Rattle.machine.specs.Steps.{State, Step, step}
use Rattle.machine.specs.Steps.Step.{ready, asks}
use Rattle.machine.specs.declared.call.Call.{Call}
use Rattle.machine.specs.declared.call.Call.TheVariants.{Run, Peek, Status, Close}
use Rattle.machine.specs.declared.phase.Phase.{Phase}
use Rattle.machine.specs.declared.phase.Phase.TheVariants.{Running, Halted, Faulted}
use Rattle.machine.specs.declared.phase.RunRefusal.{RunRefusal}
use Rattle.machine.specs.declared.phase.RunRefusal.TheVariants.{Budget, NotRunning, ClockPast}
use Rattle.machine.specs.declared.status.Status.{Status as Standing}

-- the numbers of the refusals
abbrev pub refusal_number : RunRefusal → ℕ
refusal_number Budget = 18
refusal_number NotRunning = 19
refusal_number ClockPast = 20

-- what a step comes to in a room: a time that is asked for is what some value of the rack tells, one that
-- holds what the units hold at that moment
abbrev pub Comes : {R : Type 0} → (R → Holdings) → (R → Request → ℕ) → Step → State → Type 0
Comes holds tells (ready s) t = t ≡ s
Comes {R} holds tells (asks q h k) t = (r : R) × (holds r ≡ h) × (t ≡ k (tells r q))

-- n steps, one after the other
abbrev pub Steps : {R : Type 0} → (R → Holdings) → (R → Request → ℕ) → ℕ → State → State → Type 0
Steps holds tells zero s t = t ≡ s
Steps holds tells (suc n) s t = (m : State) × Comes holds tells (step s) m × Steps holds tells n m t

-- a machine runs until it halts or is at a fault
abbrev pub is_running : Phase → Bool
is_running Running = true
is_running Halted = false
is_running (Faulted f) = false

-- why a run of b steps is refused, in the order in which it is tested; none where it is accepted
abbrev pub refused : ℕ → State → Option RunRefusal
refused b s =
    cond (b == 0 || nat_lt 1000000 b) (Some Budget) (
    cond (not (is_running s.phase)) (Some NotRunning) (
    cond (nat_le (10 ^ 15) s.counts.clock) (Some ClockPast) None))

-- b steps more are granted
abbrev pub granting : ℕ → State → State
granting b s = record s { counts = record s.counts { granted = s.counts.granted + b } }

-- what is told of a machine
abbrev pub status_of : State → Standing
status_of s = record { phase = s.phase; mark = s.mark; counts = s.counts }

-- a run of b steps: refused, and nothing changed; or the steps are made, and it is told how the machine stands
abbrev pub RanIf : {R : Type 0} → (R → Holdings) → (R → Request → ℕ) → ℕ → State → State → Option RunRefusal → Type 0
RanIf holds tells b s t None = Steps holds tells b (granting b s) t
RanIf holds tells b s t (Some e) = t ≡ s

abbrev pub Ran : {R : Type 0} → (R → Holdings) → (R → Request → ℕ) → ℕ → State → State → Type 0
Ran holds tells b s t = RanIf holds tells b s t (refused b s)

-- and its answer
abbrev pub answer : Option RunRefusal → State → Result Standing RunRefusal
answer None t = Ok (status_of t)
answer (Some e) t = Err e

-- one call: a run, or a call that leaves the machine as it is; a machine that was closed counts as halted
abbrev pub Made : {R : Type 0} → (R → Holdings) → (R → Request → ℕ) → Call → State → State → Type 0
Made holds tells (Run b) s t = Ran holds tells b s t
Made holds tells (Peek l) s t = t ≡ s
Made holds tells Status s t = t ≡ s
Made holds tells Close s t = t ≡ s

-- a list of calls, each going on from what the last one left
abbrev pub Session : {R : Type 0} → (R → Holdings) → (R → Request → ℕ) → List Call → State → State → Type 0
Session holds tells [] s t = t ≡ s
Session holds tells (c ∷ cs) s t = (m : State) × Made holds tells c s m × Session holds tells cs m t
