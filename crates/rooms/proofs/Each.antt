-- A property of the machine after a step, whatever time is told.
use Rattle.std.proofs.Common.{ℕ, sym, subst}
use Rattle.machine.specs.Runs.{Comes}
use Rattle.machine.specs.Steps.{State, Step}
use Rattle.machine.specs.Steps.Step.{ready, asks}
use Rattle.rack.specs.Units.{Holdings}
use Rattle.rack.specs.declared.request.Request.{Request}

abbrev pub Each : (State → Type 0) → Step → Type 0
Each P (ready s) = P s
Each P (asks q h k) = (d : ℕ) → P (k d)

pub each_map : (P Q : State → Type 0) → ((s : State) → P s → Q s) → (x : Step) → Each P x → Each Q x
each_map P Q f (ready s) h = f s h
each_map P Q f (asks q u k) h = λ d. f (k d) (h d)

pub each_two : (P Q : State → Type 0) (x : Step) → Each P x → Each Q x → Each (λ s. P s × Q s) x
each_two P Q (ready s) h g = (h, g)
each_two P Q (asks q u k) h g = λ d. (h d, g d)

-- and what it comes to in a room, by the time that is told there
pub each_comes : {R : Type 0} (holds : R → Holdings) (tells : R → Request → ℕ) (P : State → Type 0) (x : Step) (t : State) → Each P x → Comes holds tells x t → P t
each_comes holds tells P (ready s) t h w = subst P (sym w) h
each_comes holds tells P (asks q u k) t h w = subst P (sym w.2) (h (tells w.0 q))
