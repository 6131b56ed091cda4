use Rattle.std.proofs.Common.{ap, refl}
use Rattle.flights.specs.Flights.{opened}
use Rattle.flights.specs.Kept.{between, due_from, fits_if}
use Rattle.flights.proofs.States.{all_idle}
use Rattle.flights.proofs.flights.Flights.new.Goals as goal

pub invariant_of-result : goal.invariant_of-result
invariant_of-result c = record {
  all = refl;
  fits = λ u. ap (λ s. fits_if u (opened (s u))) (all_idle 19);
  early = λ u. ap (λ s. due_from 18446744073709551615 (s u)) (all_idle 19);
  spanned = λ u. ap (λ s. between 4000 0 (opened (s u))) (all_idle 19);
}

pub returns : goal.returns
returns c = all_idle 19
