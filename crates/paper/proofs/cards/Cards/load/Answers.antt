use Rattle.std.proofs.Common.{arith}
use Rattle.std.proofs.lemmas.Bool.Decides.{nat_tests}
use Rattle.paper.specs.Reader.{cards_loaded}
use Rattle.paper.proofs.cards.Cards.load.Goals as goal

pub returns-then-capacity-gt1000 : goal.returns-then-capacity-gt1000
unfolding cards_loaded
returns-then-capacity-gt1000 c = grind (arith, nat_tests)

pub returns-in_err-blocks : goal.returns-in_err-blocks
unfolding cards_loaded
returns-in_err-blocks c = grind (arith, nat_tests)

pub returns : goal.returns
unfolding cards_loaded
returns c = grind (arith, nat_tests)
