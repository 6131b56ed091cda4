use Rattle.std.proofs.Common.{◌≡◌, ℕ, [], ◌∷◌, subst, refl}
use Rattle.console.specs.Calls.{closed_model, loaded_model}
use Rattle.machine.specs.Runs.{Ran, Session}
use Rattle.machine.specs.Steps.{State}
use Rattle.machine.specs.declared.call.Call.TheVariants.{Close, Run, Status}
use Rattle.rack.specs.Units.{Holdings}
use Rattle.rack.specs.declared.request.Request.{Request}
use Rattle.call_tests.proofs.chains.at_once.Goals as goal

joined : {R : Type 0} (holds : R → Holdings) (tells : R → Request → ℕ) (b : ℕ) (f s m t : State) → s ≡ f → Ran holds tells b s m → t ≡ m → Session holds tells (Run b ∷ (Status ∷ (Close ∷ []))) f t
joined holds tells b f s m t e p q =
    subst (λ s. Session holds tells (Run b ∷ (Status ∷ (Close ∷ []))) s t) e (m, p, (m, refl, (m, refl, q)))

pub returns-in-Ok : goal.returns-in-Ok
returns-in-Ok g c =
    let h = g.R.Rack.holds in
    joined h g.R.Rack.tells c.args.budget _ (loaded_model h c.load-loaded.result) (loaded_model h c.run.new.self) (closed_model h c.in-Ok.closed) c.load-loaded.ensures c.run.ensures.ran c.in-Ok.ensures.1
