use Rattle.rack.specs.Transfers.{take_from}
use Rattle.racks.proofs.Halves.{on_left, on_right, left_called, right_called}
use Rattle.racks.proofs.units.SideBySideRack.take.Goals as goal

pub returns-then-unit-self : goal.returns-then-unit-self
returns-then-unit-self g c =
    let on = on_left c.args.self.now.split c.args.unit.number (g.L.Rack.holds c.args.self.now.left) (g.R.Rack.holds c.args.self.now.right) c.if-unit-self.true in
    record {
      units = rw on (left_called c.args.unit c.args.self.now.split (take_from c.args.unit c.args.block (g.L.Rack.holds c.args.self.now.left c.args.unit.number)) (g.L.Rack.holds c.args.self.now.left) (g.L.Rack.holds c.take.new.self) (g.R.Rack.holds c.args.self.now.right) c.take.result c.if-unit-self.true c.take.ensures.units);
      area = rw on c.take.ensures.area;
    }

pub returns-else-unit-self : goal.returns-else-unit-self
returns-else-unit-self g c =
    let on = on_right c.args.self.now.split c.args.unit.number (g.L.Rack.holds c.args.self.now.left) (g.R.Rack.holds c.args.self.now.right) c.if-unit-self.false in
    let taken = c.take-else-unit-self.ensures in
    record {
      units = rw on (right_called c.args.unit c.args.self.now.split (take_from c.args.unit c.args.block (g.R.Rack.holds c.args.self.now.right c.args.unit.number)) (g.L.Rack.holds c.args.self.now.left) (g.R.Rack.holds c.args.self.now.right) (g.R.Rack.holds c.take-else-unit-self.new.self) c.take-else-unit-self.result c.if-unit-self.false taken.units);
      area = rw on taken.area;
    }
