-- Where the times are known, a run comes to one machine.
use Rattle.std.proofs.Common.{◌≡◌, ℕ, zero, suc, Some, None, Option, ap, ◌∙◌}
use Rattle.machine.specs.Runs.{Comes, Ran, RanIf, Steps, granting, refused}
use Rattle.machine.specs.Steps.{State, Step, step}
use Rattle.machine.specs.Steps.Step.{ready, asks}
use Rattle.machine.specs.declared.phase.RunRefusal.{RunRefusal}
use Rattle.rack.specs.Units.{Holdings}
use Rattle.rack.specs.declared.request.Request.{Request}
use Rattle.jobs.specs.Runs.{resolved, steps_at, run_if, run_at}

module _ {R : Type 0} (holds : R → Holdings) (tells : R → Request → ℕ) (time : Request → ℕ) (told : (r : R) (q : Request) → tells r q ≡ time q) where
  came : (p : Step) (t : State) → Comes holds tells p t → t ≡ resolved time p
  came (ready s) t c = c
  came (asks q h k) t c = c.2 ∙ ap k (told c.0 q)

  stepped : (n : ℕ) (s t : State) → Steps holds tells n s t → t ≡ steps_at time n s
  stepped zero s t e = e
  stepped (suc n) s t c = stepped n c.0 t c.2 ∙ ap (steps_at time n) (came (step s) c.0 c.1)

  ran_if : (b : ℕ) (s t : State) (o : Option RunRefusal) → RanIf holds tells b s t o → t ≡ run_if time b s o
  ran_if b s t None r = stepped b (granting b s) t r
  ran_if b s t (Some e) r = r

  pub ran_at : (b : ℕ) (s t : State) → Ran holds tells b s t → t ≡ run_at time b s
  unfolding run_at
  ran_at b s t r = ran_if b s t (refused b s) r
