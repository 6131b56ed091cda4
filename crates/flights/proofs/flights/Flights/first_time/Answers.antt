use Rattle.std.proofs.Common.{◌≡◌, true, refl, subst, arith, below_more}
use Rattle.flights.specs.Flights.{states_in}
use Rattle.flights.specs.Kept.{due_from}
use Rattle.flights.proofs.Bounds.{due_sooner}
use Rattle.flights.proofs.States.{states_all}
use Rattle.flights.proofs.flights.Flights.first_time.Goals as goal

pub loop-number-init : goal.loop-number-init
loop-number-init c = λ u l. absurd (omega arith)

pub loop-number-preserved : goal.loop-number-preserved
loop-number-preserved c =
    let s = states_in c.args.self.now.states in
    below_more (λ u. due_from c.sooner-first.result (s u) ≡ true) c.loop-number.number
    (λ u l. due_sooner c.sooner-first.result c.loop-number.first (s u) c.sooner-first.ensures.below (c.loop-number.invariant u l))
    (subst (λ x. due_from c.sooner-first.result x ≡ true) c.at.ensures c.sooner-first.ensures.here)

pub returns : goal.returns
returns c =
    states_all (λ u x. due_from c.loop-number.first x ≡ true) c.args.self.now.states c.loop-number.number (omega (arith, c.args.self.now.all)) (λ u. refl) c.loop-number.invariant
