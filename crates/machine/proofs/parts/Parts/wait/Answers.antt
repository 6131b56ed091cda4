use Rattle.std.proofs.Common.{◌≤◌, subst, arith}
use Rattle.flights.proofs.Dues.{Left, drain_left}
use Rattle.machine.specs.Model.{core_of}
use Rattle.machine.proofs.parts.Parts.wait.Goals as goal

pub wait_until-requires-in-Err-clause-soon : goal.wait_until-requires-in-Err-clause-soon
wait_until-requires-in-Err-clause-soon g c =
    let m = c.args.self.now in
    let e = c.in-Err.ensures.core m.processor.registers in
    let l : c.in-Err.broken.due ≤ c.args.time = subst (Left c.args.time) e (drain_left c.args.time (core_of g.R.Rack.holds m)) in
    omega arith
