use Rattle.paper.proofs.Writing.{area_stays}
use Rattle.paper.proofs.trays.TrayRack.take.Goals as goal

pub returns-clause-area : goal.returns-clause-area
returns-clause-area c = area_stays c.args.unit c.args._block c.args.self.now.lines c.refusal.result c.args._area.now c.refusal.ensures
