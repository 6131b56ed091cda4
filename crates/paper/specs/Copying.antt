-- A card that is read and punched again.
use Rattle.std.specs.Prelude.{◌≡◌, ℕ, ◌-◌, List, [], length, slice_get, Some, None, Ok, Err, Option, Result, ⊤}
use Rattle.rack.specs.Transfers.{Answer, After, put_to, take_from, updated}
use Rattle.rack.specs.Units.{Holding, Holdings, text_of_unit}
use Rattle.rack.specs.declared.fault.UnitFault.{UnitFault}
use Rattle.rack.specs.declared.unit.Unit.{Unit}
use Rattle.word.specs.declared.word.Word.{Word}

-- the card reader and the card punch
abbrev pub reader : Unit
reader = record { number = 16 }

abbrev pub punch : Unit
punch = record { number = 17 }

-- a Take from the reader, and a Put of its block on the punch; a card that the punch rejects is read all the same
abbrev pub CopiedAs : Answer → Holdings → Holdings → Result ⊤ UnitFault → Type 0
CopiedAs (Ok e) old new r = After punch (put_to punch 0 e.block (old 17)) (updated old 16 (Some e.holding)) new r
CopiedAs (Err f) old new r = (r ≡ Err f) × (new ≡ old)

abbrev pub Copied : Holdings → Holdings → Result ⊤ UnitFault → Type 0
Copied old new r = CopiedAs (take_from reader 0 (old 16)) old new r

-- the block that a unit gives next
abbrev pub next_block : Option Holding → Option (Option (List Word))
next_block None = None
next_block (Some h) = slice_get h.blocks h.position

-- the text of the last block of a unit
abbrev pub last_text : ℕ → Option Holding → List ℕ
last_text u None = []
last_text u (Some h) = text_of_unit u (Some h) (length h.blocks - 1)
