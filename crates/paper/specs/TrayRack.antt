-- What a text tray holds, as a rack.
use Rattle.std.specs.Prelude.{ℕ, Some, None, Option}
use Rattle.rack.specs.Units.{Holding, Holdings}
use Rattle.rack.specs.declared.request.Request.{Request}
use Rattle.paper.specs.Reader.{alone, nowhere}
use Rattle.paper.specs.Tray.{device_number, lines_held}
use Rattle.paper.specs.declared.lines.Lines.{Lines}
use Rattle.paper.specs.declared.tray.Tray.{Tray}

-- the holding of lines of text
abbrev pub lines_of : Lines → Holding
lines_of l = lines_held l.device l.capacity l.text.items l.ring

-- only the device's own unit is present, if it is
abbrev pub tray_units : Option Lines → Holdings
tray_units None = nowhere
tray_units (Some l) = alone (device_number l.device) (Some (lines_of l))

abbrev pub tray_holds : Tray → Holdings
tray_holds t = tray_units t.lines

-- the time that a tray tells for each request
abbrev pub tray_tells : Tray → Request → ℕ
tray_tells t q = t.time
