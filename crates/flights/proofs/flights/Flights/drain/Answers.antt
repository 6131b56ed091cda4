use Rattle.std.proofs.Common.{sym, ap, ◌∙◌}
use Rattle.flights.specs.Flights.{states_in}
use Rattle.flights.specs.Flights.Drained.{broke}
use Rattle.flights.specs.Stands.{core_in}
use Rattle.flights.specs.declared.fault.Fault.TheVariants.{Transfer}
use Rattle.flights.proofs.Drains.{drain_none, drain_next, drain_broke, drain_end, next_found}
use Rattle.flights.proofs.flights.Flights.drain.Goals as goal

pub returns-in_default-clause-core : goal.returns-in_default-clause-core
returns-in_default-clause-core g c = λ r.
    let l = c.loop-turn in
    sym (l.invariant.0 r) ∙ drain_none l._turn c.args.by c.loop-turn-test.true (core_in r l.memory (g.R.Rack.holds l.rack) l.self.states) c.in_default.ensures

pub carry-requires-clause-known : goal.carry-requires-clause-known
carry-requires-clause-known g c =
    let d = c.in-Some.due in
    (next_found c.args.by (states_in c.loop-turn.self.states) d.unit.number d.flight d.time c.in-Some.ensures).0

pub carry-requires-clause-busy : goal.carry-requires-clause-busy
carry-requires-clause-busy g c =
    let d = c.in-Some.due in
    (next_found c.args.by (states_in c.loop-turn.self.states) d.unit.number d.flight d.time c.in-Some.ensures).1

pub returns-in-Err-clause-core : goal.returns-in-Err-clause-core
returns-in-Err-clause-core g c = λ r.
    let l = c.loop-turn in
    let d = c.in-Some.due in
    let e = c.in-Err.ensures.core r in
    sym (l.invariant.0 r)
    ∙ drain_broke l._turn c.args.by c.loop-turn-test.true (core_in r l.memory (g.R.Rack.holds l.rack) l.self.states) d.unit.number d.flight d.time c.in-Some.ensures (Transfer c.in-Err.rejected) e.0
    ∙ ap (λ k. broke k d.time (Transfer c.in-Err.rejected)) (sym e.1)

pub loop-turn-preserved : goal.loop-turn-preserved
loop-turn-preserved g c =
    let l = c.loop-turn in
    let d = c.in-Some.due in (
      (λ r. sym (drain_next l._turn c.args.by c.loop-turn-test.true (core_in r l.memory (g.R.Rack.holds l.rack) l.self.states) d.unit.number d.flight d.time c.in-Some.ensures _ (c.in_default-carry.ensures.core r)) ∙ l.invariant.0 r),
      c.carry.ensures.all,
    )

pub returns-clause-core : goal.returns-clause-core
returns-clause-core g c = λ r.
    let l = c.loop-turn in
    sym (l.invariant.0 r) ∙ drain_end l._turn c.args.by c.loop-turn-test.false (core_in r l.memory (g.R.Rack.holds l.rack) l.self.states)
