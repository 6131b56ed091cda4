use Rattle.flights.specs.Flights.{opened, states_in}
use Rattle.flights.proofs.Bounds.{between_wider, due_sooner}
use Rattle.flights.proofs.flights.Flights.widen.Goals as goal

pub invariant_of-self : goal.invariant_of-self
invariant_of-self c =
    let m = c.args.self.now in
    let r = c.wider-low.result in
    record {
      all = m.all;
      fits = m.fits;
      early = λ u. due_sooner c.sooner-soonest.result m.soonest (states_in m.states u) c.sooner-soonest.ensures.below (m.early u);
      spanned = λ u. between_wider m.low m.high r.0 r.1 (opened (states_in m.states u)) c.wider-low.ensures.low c.wider-low.ensures.high (m.spanned u);
    }
