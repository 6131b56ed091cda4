-- What the text tray of a card punch or a printer holds.
use Rattle.std.specs.Prelude.{ℕ, List, map}
use Rattle.card.specs.Text.{text_words}
use Rattle.rack.specs.Units.{Holding, block_size, block_text, columns}
use Rattle.rack.specs.declared.kind.Kind.{Kind}
use Rattle.rack.specs.declared.kind.Kind.TheVariants.{Punch as PunchKind, Printer as PrinterKind}
use Rattle.rack.specs.declared.standing.Ring.{Ring}
use Rattle.paper.specs.declared.device.Device.{Device}
use Rattle.paper.specs.declared.device.Device.TheVariants.{Punch, Printer}

-- the number of a device as a unit
abbrev pub device_number : Device → ℕ
device_number Punch = 17
device_number Printer = 18

-- the kind of unit that it is
abbrev pub device_kind : Device → Kind
device_kind Punch = PunchKind
device_kind Printer = PrinterKind

-- the words of its blocks
abbrev pub device_size : Device → ℕ
device_size d = block_size (device_kind d)

-- a tray of lines of text: each line's first words are its block
abbrev pub lines_held : Device → ℕ → List (List ℕ) → Ring → Holding
lines_held d c lines r = record { capacity = c; blocks = map (text_words (device_size d)) lines; position = 0; ring = r }

-- the text of a line's block, in 120 columns
abbrev pub shown : Device → List ℕ → List ℕ
shown d line = columns (block_text (text_words (device_size d) line))
