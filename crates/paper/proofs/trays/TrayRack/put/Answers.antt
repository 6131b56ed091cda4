use Rattle.std.proofs.Common.{◌≡◌, Some, Option, refl, sym, ap, ◌∙◌}
use Rattle.rack.specs.Units.{Holdings}
use Rattle.paper.specs.Tray.{device_number}
use Rattle.paper.specs.TrayRack.{lines_of, tray_holds, tray_units}
use Rattle.paper.specs.declared.lines.Lines.{Lines}
use Rattle.paper.proofs.Alone.{alone_absent}
use Rattle.paper.proofs.Writing.{put_absent, put_done}
use Rattle.paper.proofs.trays.TrayRack.put.Goals as goal

pub returns-in_default-clause-units : goal.returns-in_default-clause-units
returns-in_default-clause-units c = put_absent c.args.unit c.args._block c.args.area.now _ (tray_holds c.args.self.now) _ (ap (λ (o : Option Lines). tray_units o c.args.unit.number) c.in_default.is) refl

pub returns-then-number-unit-clause-units : goal.returns-then-number-unit-clause-units
returns-then-number-unit-clause-units c =
    let l = c.in-Some.lines in
    let e : tray_units c.args.self.now.lines ≡ tray_units (Some l) = ap tray_units c.in-Some.is in
    let n = alone_absent (device_number l.device) c.args.unit.number (Some (lines_of l)) (λ h. c.if-number-unit.true (c.number.ensures ∙ sym h)) in
    put_absent c.args.unit c.args._block c.args.area.now _ (tray_holds c.args.self.now) _ (ap (λ (g : Holdings). g c.args.unit.number) e ∙ n) (sym e)

pub returns-clause-units : goal.returns-clause-units
returns-clause-units c = put_done c.args.unit c.args._block c.args.area.now c.args.self.now.lines c.in-Some.lines c.write.new.self c.write.result c.in-Some.is (sym c.if-number-unit.false ∙ c.number.ensures) c.write.ensures.device c.write.ensures.lines
