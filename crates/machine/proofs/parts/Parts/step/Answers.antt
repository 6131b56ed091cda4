use Rattle.std.proofs.Common.{refl, subst}
use Rattle.machine.specs.Model.{stands}
use Rattle.machine.specs.Runs.{Comes}
use Rattle.machine.proofs.Stepping.{step_still}
use Rattle.machine.proofs.parts.Parts.step.Goals as goal

pub returns-in_default : goal.returns-in_default
returns-in_default g c =
    let s = stands g.R.Rack.holds c.args.self.now in
    subst (λ z. Comes g.R.Rack.holds g.R.Rack.tells z s) (step_still s c.in_default.not-Running) refl
