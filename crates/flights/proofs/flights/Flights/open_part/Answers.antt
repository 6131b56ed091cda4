use Rattle.std.proofs.Common.{◌≡◌, true, refl, subst, arith, below_more}
use Rattle.flights.specs.Flights.{opened, states_in}
use Rattle.flights.specs.Kept.{between}
use Rattle.flights.proofs.Bounds.{between_wider, within_if}
use Rattle.flights.proofs.States.{states_all}
use Rattle.flights.proofs.flights.Flights.open_part.Goals as goal

pub wider-requires : goal.wider-requires
wider-requires c =
    let e = c.at.ensures in
    within_if c.loop-number.number (opened c.at.result) (rw e (c.args.self.now.fits c.loop-number.number))

pub loop-number-preserved : goal.loop-number-preserved
loop-number-preserved c =
    let s = states_in c.args.self.now.states in
    let r = c.wider.result in
    below_more (λ u. between r.0 r.1 (opened (s u)) ≡ true) c.loop-number.number
    (λ u l. between_wider c.loop-number.low c.loop-number.high r.0 r.1 (opened (s u)) c.wider.ensures.low c.wider.ensures.high (c.loop-number.invariant u l))
    (subst (λ x. between r.0 r.1 (opened x) ≡ true) c.at.ensures c.wider.ensures.here)

pub returns : goal.returns
returns c =
    states_all (λ u x. between c.loop-number.low c.loop-number.high (opened x) ≡ true) c.args.self.now.states c.loop-number.number (omega (arith, c.args.self.now.all)) (λ u. refl) c.loop-number.invariant
