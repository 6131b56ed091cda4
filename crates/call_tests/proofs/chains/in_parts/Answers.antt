use Rattle.std.proofs.Common.{◌≡◌, ℕ, [], ◌∷◌, subst, refl}
use Rattle.console.specs.Calls.{closed_model, loaded_model}
use Rattle.machine.specs.Runs.{Ran, Session}
use Rattle.machine.specs.Steps.{State}
use Rattle.machine.specs.declared.call.Call.TheVariants.{Close, Peek, Run}
use Rattle.rack.specs.Units.{Holdings}
use Rattle.rack.specs.declared.request.Request.{Request}
use Rattle.call_tests.proofs.chains.in_parts.Goals as goal

joined : {R : Type 0} (holds : R → Holdings) (tells : R → Request → ℕ) (b c l : ℕ) (f s m n t : State) → s ≡ f → Ran holds tells b s m → Ran holds tells c m n → t ≡ n → Session holds tells (Run b ∷ (Peek l ∷ (Run c ∷ (Close ∷ [])))) f t
joined holds tells b c l f s m n t e p q r =
    subst (λ s. Session holds tells (Run b ∷ (Peek l ∷ (Run c ∷ (Close ∷ [])))) s t) e (m, p, (m, refl, (n, q, (n, refl, r))))

pub returns-in-Ok : goal.returns-in-Ok
returns-in-Ok g c =
    let h = g.R.Rack.holds in
    joined h g.R.Rack.tells c.args.part c.args.rest 100 _ (loaded_model h c.load-loaded.result) (loaded_model h c.run.new.self) (loaded_model h c.run-2.new.self) (closed_model h c.in-Ok.closed) c.load-loaded.ensures c.run.ensures.ran c.run-2.ensures.ran c.in-Ok.ensures.1
