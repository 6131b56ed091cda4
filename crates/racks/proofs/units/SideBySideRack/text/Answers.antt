use Rattle.racks.proofs.Halves.{on_left, on_right}
use Rattle.racks.proofs.units.SideBySideRack.text.Goals as goal

pub returns-then-unit-self : goal.returns-then-unit-self
returns-then-unit-self g c =
    rw (on_left c.args.self.now.split c.args.unit.number (g.L.Rack.holds c.args.self.now.left) (g.R.Rack.holds c.args.self.now.right) c.if-unit-self.true) c.text.ensures

pub returns-else-unit-self : goal.returns-else-unit-self
returns-else-unit-self g c =
    rw (on_right c.args.self.now.split c.args.unit.number (g.L.Rack.holds c.args.self.now.left) (g.R.Rack.holds c.args.self.now.right) c.if-unit-self.false) c.text-else-unit-self.ensures
