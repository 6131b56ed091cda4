-- What tapes and disks in memory hold.
use Rattle.std.specs.Prelude.{ℕ, ◌-◌, cond, List, map, length, None, Option, nat_lt, slice_index_or}
use Rattle.std.specs.Option.{option_map, option_map_or}
use Rattle.rack.specs.Units.{Holding, Holdings}
use Rattle.rack.specs.declared.request.Request.{Request}
use Rattle.stores.specs.Blocks.{words_in}
use Rattle.stores.specs.declared.tape.Tape.{Tape}
use Rattle.stores.specs.declared.disk.Disk.{Disk}
use Rattle.stores.specs.declared.stores.Stores.{Stores}

-- what a tape holds
abbrev pub tape_holding : Tape → Holding
tape_holding t = record { capacity = t.capacity; blocks = map words_in t.blocks.items; position = t.position; ring = t.ring }

-- what a disk holds: it is full, and has no position
abbrev pub disk_holding : Disk → Holding
disk_holding d = record { capacity = length d.blocks.items; blocks = map words_in d.blocks.items; position = 0; ring = d.ring }

-- what a unit of some list of units holds
abbrev pub held : {X : Type 0} → (X → Holding) → List (Option X) → ℕ → Option Holding
held f xs n = option_map f (slice_index_or xs n None)

-- the time of a unit of some list of units; an absent one has 0
abbrev pub timed : {X : Type 0} → (X → ℕ) → List (Option X) → ℕ → ℕ
timed f xs n = option_map_or f (slice_index_or xs n None) 0

-- what each unit holds: tapes have the numbers 0 to 7, disks 8 to 15
unfoldable pub holds_of : Stores → Holdings
holds_of r u = cond (nat_lt u 8) (held tape_holding r.tapes u) (cond (nat_lt u 16) (held disk_holding r.disks (u - 8)) None)

-- the time of each unit
unfoldable pub times_of : Stores → ℕ → ℕ
times_of r u = cond (nat_lt u 8) (timed (λ t. t.time) r.tapes u) (cond (nat_lt u 16) (timed (λ d. d.time) r.disks (u - 8)) 0)

-- a request is told the time of its unit
abbrev pub tells_of : Stores → Request → ℕ
tells_of r q = times_of r q.unit.number
