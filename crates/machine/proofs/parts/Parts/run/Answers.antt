use Rattle.std.proofs.Common.{◌+◌, sym, subst, ◌∙◌, arith}
use Rattle.machine.specs.Model.{stands}
use Rattle.machine.specs.Runs.{Steps}
use Rattle.machine.proofs.Running.{accepted, low_steps, not_running, steps_next, steps_stopped}
use Rattle.machine.proofs.parts.Parts.run.Goals as goal

pub returns-then-not-is_running : goal.returns-then-not-is_running
returns-then-not-is_running g c =
    let l = c.loop-step in
    let h = g.R.Rack.holds in
    let t = g.R.Rack.tells in
    let s = stands h c.args.self.now in
    let w = subst (λ n. Steps h t l._step (record s { counts = record s.counts { granted = s.counts.granted + n } }) (stands h l.self)) c.from.ensures l.invariant in
    steps_stopped h t l._step c.args.budget _ (stands h l.self) w (not_running l.self.phase (sym c.is_running.ensures ∙ c.if-not-is_running.true)) (omega arith)

pub step-requires : goal.step-requires
step-requires g c =
    let l = c.loop-step in
    let h = g.R.Rack.holds in
    let t = g.R.Rack.tells in
    let s = stands h c.args.self.now in
    let w = subst (λ n. Steps h t l._step (record s { counts = record s.counts { granted = s.counts.granted + n } }) (stands h l.self)) c.from.ensures l.invariant in
    low_steps h t g.met.R.Rack.bounded c.args.budget l._step s (stands h l.self) (accepted c.args.budget s c.requires.accepted) c.requires.sane (omega arith) w

pub loop-step-preserved : goal.loop-step-preserved
loop-step-preserved g c =
    let l = c.loop-step in
    let h = g.R.Rack.holds in
    steps_next h g.R.Rack.tells l._step _ (stands h l.self) (stands h c.step.new.self) l.invariant c.step.ensures
