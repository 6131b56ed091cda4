-- What mixrooms prints.
use Rattle.std.specs.Prelude.{◌≡◌, ℕ, List, [], ◌∷◌, ◌++◌, drop, replicate, Ok, Err, None, Result, codes}
use Rattle.card.specs.Lines.{cards_of}
use Rattle.console.specs.Calls.{loaded_with}
use Rattle.job_rack.specs.Units.{job_units}
use Rattle.jobs.specs.Jobs.{outcome_in, outcome_of, reject_line, runs_of}
use Rattle.machine.specs.Runs.{Session}
use Rattle.machine.specs.Steps.{State}
use Rattle.machine.specs.declared.call.Call.{Call}
use Rattle.machine.specs.declared.call.Call.TheVariants.{Run}
use Rattle.machine.specs.declared.phase.Phase.{Phase}
use Rattle.machine.specs.declared.phase.Phase.TheVariants.{Running, Halted, Faulted}
use Rattle.mixal.specs.Assembled.{deck_of}
use Rattle.mixal.specs.Ends.{Assembled}
use Rattle.mixal.specs.declared.cause.Rejection.{Rejection}
use Rattle.rack.specs.Units.{Holdings}
use Rattle.rack.specs.declared.request.Request.{Request}
use Rattle.sheet.specs.Sheet.{front_of, line, mark_line, sheet_of}
use Rattle.room_jobs.specs.Differences.{differences}
use Rattle.room_jobs.specs.declared.outcomes.Outcome.{Outcome}

-- the calls in each room: ten runs of 1,000,000 steps
abbrev pub ten_runs : List Call
ten_runs = replicate 10 (Run 1000000)

-- what is compared of a room: what comes of it, but for the clock
abbrev pub compared_in : State → Phase → List ℕ
compared_in s Running = outcome_in s Running
compared_in s Halted = front_of s
compared_in s (Faulted f) = outcome_in s (Faulted f)

abbrev pub compared_of : State → List ℕ
compared_of s = compared_in s s.phase

-- whether the watch vouches for a machine that has halted
abbrev pub verdict_in : State → Phase → List ℕ
verdict_in s Running = []
verdict_in s Halted = mark_line s.mark
verdict_in s (Faulted f) = []

abbrev pub verdict_of : State → List ℕ
verdict_of s = verdict_in s s.phase

-- what the code keeps of a room
abbrev pub OutcomeOf : State → Outcome → Type 0
OutcomeOf s o = (o.told.items ≡ outcome_of s) × (o.compared.items ≡ compared_of s) × (o.verdict.items ≡ verdict_of s)

-- the differences, or that there are none
abbrev pub same_line : List ℕ
same_line = line (codes "SAME but for the clock")

abbrev pub told_differences : List ℕ → List ℕ
told_differences [] = same_line
told_differences (b ∷ bs) = b ∷ bs

-- what is printed of what came of a deck in the first room and in the second
abbrev pub rooms_text : State → State → List ℕ
rooms_text s t = outcome_of s ++ (verdict_of s ++ told_differences (differences (compared_of s) (compared_of t)))

-- what is printed, s being what comes of the deck in the first room: some t that the second room's rack may lead to
-- stands beside it
module _ {R : Type 0} (holds : R → Holdings) (tells : R → Request → ℕ) where
  pub record Beside (loaded s : State) (out : List ℕ) : Type 0 where
    pub second : State
    pub came : Session holds tells ten_runs loaded second
    pub text : out ≡ rooms_text s second
    -- where the first room has halted without a mark and the second has halted, no line differs
    pub same : s.phase ≡ Halted → s.mark ≡ None → second.phase ≡ Halted → out ≡ sheet_of s ++ (line (codes "CLEAN") ++ same_line)

  -- the first room makes its runs with the times of a job
  abbrev pub RunsBeside : State → List ℕ → Type 0
  RunsBeside loaded out = Beside loaded (runs_of 10 loaded) out

  -- of a rejected deck its rejection is printed
  abbrev pub RoomsPrintedOf : List ℕ → List ℕ → Result Assembled Rejection → Type 0
  RoomsPrintedOf input out (Err p) = out ≡ reject_line p
  RoomsPrintedOf input out (Ok a) = RunsBeside (loaded_with a (job_units (drop a.cards (cards_of input)))) out

  abbrev pub RoomsPrinted : List ℕ → List ℕ → Type 0
  RoomsPrinted input out = RoomsPrintedOf input out (deck_of input)
