use Rattle.racks.proofs.Halves.{on_left, on_right, left_called, right_called}
use Rattle.racks.proofs.units.SideBySideRack.put.Goals as goal

pub returns-then-unit-self : goal.returns-then-unit-self
returns-then-unit-self g c =
    rw (on_left c.args.self.now.split c.args.unit.number (g.L.Rack.holds c.args.self.now.left) (g.R.Rack.holds c.args.self.now.right) c.if-unit-self.true)
    (left_called c.args.unit c.args.self.now.split _ _ _ _ c.put.result c.if-unit-self.true c.put.ensures)

pub returns-else-unit-self : goal.returns-else-unit-self
returns-else-unit-self g c =
    rw (on_right c.args.self.now.split c.args.unit.number (g.L.Rack.holds c.args.self.now.left) (g.R.Rack.holds c.args.self.now.right) c.if-unit-self.false)
    (right_called c.args.unit c.args.self.now.split _ _ _ _ c.put-else-unit-self.result c.if-unit-self.false c.put-else-unit-self.ensures)
