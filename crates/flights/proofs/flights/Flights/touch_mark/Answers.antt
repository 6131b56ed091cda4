use Rattle.std.proofs.Common.{sym, ◌∙◌}
use Rattle.flights.specs.Flights.{opened, states_in}
use Rattle.flights.proofs.Watching.{no_touch, shut}
use Rattle.flights.proofs.flights.Flights.touch_mark.Goals as goal

pub returns-then-self-eq0 : goal.returns-then-self-eq0
returns-then-self-eq0 c =
    let m = c.args.self.now in
    no_touch m.low m.high c.args.location c.args.reads c.args.writes
    (shut m.low m.high (record { start = c.args.location; count = 1 }) c.if-self-eq0.true)
    (shut m.low m.high c.args.reads c.if-self-eq0.true)
    (shut m.low m.high c.args.writes c.if-self-eq0.true)
    (λ u. opened (states_in m.states u)) m.spanned

pub returns-then-misses-3 : goal.returns-then-misses-3
returns-then-misses-3 c =
    let m = c.args.self.now in
    no_touch m.low m.high c.args.location c.args.reads c.args.writes
    (sym c.misses.ensures ∙ c.if-misses.true)
    (sym c.misses-then-misses.ensures ∙ c.if-misses-2.true)
    (sym c.misses-then-misses-2.ensures ∙ c.if-misses-3.true)
    (λ u. opened (states_in m.states u)) m.spanned
