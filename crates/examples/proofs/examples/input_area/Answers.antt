use Rattle.std.proofs.Common.{rules, ap}
use Rattle.examples.proofs.Areas.{refused}
use Rattle.paper.specs.Reader.{cards_loaded}
use Rattle.examples.proofs.examples.input_area.Goals as goal

pub returns-in-Err : goal.returns-in-Err
unfolding cards_loaded
returns-in-Err c = refused c.wrapping-from.result c.args.from _ _ _ (search rules) (ap (λ g. g 16) c.new-reader.ensures.holds) c.in-Err.ensures
