use Rattle.std.proofs.Common.{◌^◌, ◌<◌, arith}
use Rattle.flights.specs.Flights.{drain, last_due, states_in, units}
use Rattle.machine.specs.Model.{core_of, stands}
use Rattle.machine.proofs.Acting.{last_below, small_waited, waited_counts}
use Rattle.machine.proofs.parts.Parts.halt.Goals as goal

pub wait-requires-clause-soon : goal.wait-requires-clause-soon
wait-requires-clause-soon g c =
    let m = c.args.self.now in
    let e = c.last_due-ready.ensures in
    let l : last_due units m.counts.clock (states_in m.flights.states) < 2 ^ 61 = last_below units m.counts.clock (2 ^ 61) (states_in m.flights.states) c.requires.low.counts.clock c.requires.low.dues in
    omega arith

pub work-requires : goal.work-requires
work-requires g c =
    let m = c.args.self.now in
    let now = c.last_due-ready.result in
    let e = c.last_due-ready.ensures in
    let l : last_due units m.counts.clock (states_in m.flights.states) < 2 ^ 61 = last_below units m.counts.clock (2 ^ 61) (states_in m.flights.states) c.requires.low.counts.clock c.requires.low.dues in
    small_waited m.counts c.wait.new.self.counts now
    (waited_counts (drain units now (core_of g.R.Rack.holds m)) now (stands g.R.Rack.holds m) (stands g.R.Rack.holds c.wait.new.self) _ c.in_ok-wait.ensures.machine)
    c.requires.low.counts (omega arith)
