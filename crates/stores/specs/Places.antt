-- Where units are in a rack of tapes and disks.
use Rattle.std.specs.Prelude.{◌≡◌, ℕ, ◌+◌, ◌<◌, ◌≤◌, Some, None, Option}
use Rattle.stores.specs.declared.place.Place.{Place}
use Rattle.stores.specs.declared.place.Place.TheVariants.{Tape, Disk}

-- the numbers 0 to 7 are tapes, and 8 to 15 disks, counted from 8
abbrev pub Stands : ℕ → Option Place → Type 0
Stands u None = 16 ≤ u
Stands u (Some (Tape i)) = (u ≡ i) × (i < 8)
Stands u (Some (Disk i)) = (u ≡ i + 8) × (i < 8)
