-- What units of tape and disk are made with.
use Rattle.std.specs.Prelude.{◌≡◌, ℕ, ◌<◌, ◌≤◌, map, Some, None, Ok, Err, Result, ⊤}
use Rattle.rack.specs.Transfers.{updated}
use Rattle.rack.specs.Units.{Holding, Holdings, SoundIf, kind_of}
use Rattle.stores.specs.Blocks.{words_in}
use Rattle.stores.specs.declared.contents.Contents.{Contents}
use Rattle.stores.specs.declared.contents.NotMade.{NotMade}
use Rattle.stores.specs.declared.contents.NotMade.TheVariants.{NoStore, NotAllowed, OutOfMemory}

-- what a unit with these contents holds
abbrev pub holding_in : Contents → Holding
holding_in c = record { capacity = c.capacity; blocks = map words_in c.blocks.now; position = c.position; ring = c.ring }

-- why a tape or a disk is not made: the rules do not allow it, or they do and memory is wanting
abbrev pub Refuses : Type 0 → NotMade → Type 0
Refuses Allowed NoStore = ⊥
Refuses Allowed NotAllowed = ¬ Allowed
Refuses Allowed OutOfMemory = Allowed

-- making unit u with the holding h: it is in, where it is a tape or a disk, the rules allow it and memory
-- does not want; another number leaves all as it was; else the unit is absent. No other unit alters
abbrev pub Makes : ℕ → Holding → Holdings → Holdings → Result ⊤ NotMade → Type 0
Makes u h old new (Ok x) = (u < 16) × SoundIf (kind_of u) (Some h) × (new ≡ updated old u (Some h))
Makes u h old new (Err NoStore) = (16 ≤ u) × (new ≡ old)
Makes u h old new (Err NotAllowed) = (u < 16) × (¬ SoundIf (kind_of u) (Some h)) × (new ≡ updated old u None)
Makes u h old new (Err OutOfMemory) = (u < 16) × SoundIf (kind_of u) (Some h) × (new ≡ updated old u None)
