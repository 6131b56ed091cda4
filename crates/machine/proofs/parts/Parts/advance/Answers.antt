use Rattle.std.proofs.Common.{[], ◌∷◌, Ok, refl, sym, ap, subst, ◌∙◌}
use Rattle.std.proofs.lemmas.Result.{err_from_is_err_and}
use Rattle.cpu.specs.Executed.{Done, cells, said}
use Rattle.cpu.specs.Instructions.{instruction}
use Rattle.flights.specs.Stands.{core_in}
use Rattle.machine.specs.Acts.{Came}
use Rattle.machine.specs.Model.{stands}
use Rattle.machine.specs.Runs.{Comes}
use Rattle.machine.specs.Steps.{act}
use Rattle.machine.specs.declared.phase.Phase.TheVariants.{Faulted}
use Rattle.machine.proofs.Stepping.{executed, here, low_drained, rejected, step_broke, step_clear}
use Rattle.machine.proofs.parts.Parts.advance.Goals as goal

pub returns-in_err-catch_up : goal.returns-in_err-catch_up
returns-in_err-catch_up g c =
    let m = c.args.self.now in
    let h = g.R.Rack.holds in
    let s = stands h m in
    let d = core_in m.processor.registers c.catch_up.new.memory (h c.catch_up.new.rack) c.catch_up.new.self.states in
    let p = err_from_is_err_and c.from_residual.result c.from_residual.ensures.1 in
    let e = c.in_err-catch_up.ensures.core m.processor.registers in
    rw (p.1) (subst (λ z. Comes h g.R.Rack.tells z (record s { core = d; phase = Faulted p.0 })) (step_broke s c.requires.runs d _ _ e) (λ i. record s { core = d; phase = Faulted (p.2 i) }))

pub returns-in_err-step : goal.returns-in_err-step
returns-in_err-step g c =
    let m = c.args.self.now in
    let h = g.R.Rack.holds in
    let s = stands h m in
    let d = core_in m.processor.registers c.catch_up.new.memory (h c.catch_up.new.rack) c.catch_up.new.self.states in
    let p = err_from_is_err_and c.from_residual-in_err-step.result c.from_residual-in_err-step.ensures.1 in
    let e = c.in_err-step.ensures.executed in
    let a = step_clear s c.requires.runs d (c.in_ok-catch_up.ensures.core m.processor.registers) in
    rw (p.1) (subst (λ z. Comes h g.R.Rack.tells z (record s { core = record d { registers = c.execute.new.self.registers; memory = cells c.execute.new.self.memory }; phase = Faulted p.0 }))
    (rejected s d _ e.0 ∙ a) (λ i. record s { core = record d { registers = e.1 i; memory = e.2 i }; phase = Faulted (p.2 i) }))

pub act-requires-clause-low : goal.act-requires-clause-low
act-requires-clause-low g c =
    let m = c.args.self.now in
    let h = g.R.Rack.holds in
    let d = core_in m.processor.registers c.catch_up.new.memory (h c.catch_up.new.rack) c.catch_up.new.self.states in
    let k = core_in c.execute.new.self.registers c.execute.new.self.memory (h c.catch_up.new.rack) c.catch_up.new.self.states in
    low_drained (stands h m) d k c.requires.low (c.in_ok-catch_up.ensures.core m.processor.registers) refl

pub act-requires-clause-here : goal.act-requires-clause-here
act-requires-clause-here g c =
    let m = c.args.self.now in
    let x = c.in_ok-step.step in
    here m.processor.registers c.execute.new.self.registers (cells c.catch_up.new.memory) x.time x.next c.in_ok-step.ensures.executed.outcome c.in_ok-step.ensures.executed.stays

pub returns : goal.returns
returns g c =
    let m = c.args.self.now in
    let h = g.R.Rack.holds in
    let s = stands h m in
    let x = c.in_ok-step.step in
    let d = core_in m.processor.registers c.catch_up.new.memory (h c.catch_up.new.rack) c.catch_up.new.self.states in
    let a = step_clear s c.requires.runs d (c.in_ok-catch_up.ensures.core m.processor.registers) in
    let f = subst (λ j. Done (instruction m.processor.registers) (m.processor.registers.location ∷ []) j m.processor.registers (cells c.catch_up.new.memory) c.execute.new.self.registers (cells c.execute.new.self.memory) x) c.word.ensures c.in_ok-step.ensures.executed in
    let e = executed s d c.execute.new.self.registers (cells c.execute.new.self.memory) x f c.watch-mark-2.result c.watch-mark-2.ensures in
    subst (λ z. Came h g.R.Rack.tells z c.act.result (stands h c.act.new.self)) (e ∙ a) c.act.ensures

pub returns-in-Goes : goal.returns-in-Goes
returns-in-Goes g c =
    let m = c.args.self.now in
    let h = g.R.Rack.holds in
    let s = stands h m in
    let x = c.in_ok-step.step in
    let r = c.execute.new.self.registers in
    let n = cells c.execute.new.self.memory in
    let d = core_in m.processor.registers c.catch_up.new.memory (h c.catch_up.new.rack) c.catch_up.new.self.states in
    let k = record d { registers = r; memory = n } in
    let a = step_clear s c.requires.runs d (c.in_ok-catch_up.ensures.core m.processor.registers) in
    let f = subst (λ j. Done (instruction m.processor.registers) (m.processor.registers.location ∷ []) j m.processor.registers (cells c.catch_up.new.memory) r n x) c.word.ensures c.in_ok-step.ensures.executed in
    let e = executed s d r n x f c.watch-mark.result c.watch-mark.ensures in
    let b = ap (λ o. act (record s { core = k }) k n c.watch-mark.result (said x.time o r)) (sym c.in-Goes.is) in
    subst (λ z. Came h g.R.Rack.tells z (Ok (tt {0})) (stands h c.go.new.self)) (b ∙ e ∙ a) c.go.ensures
