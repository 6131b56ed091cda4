-- Transfers once more, by what must hold of them: the causes of rejection in their order, and that what is
-- put is taken again.
use Rattle.std.specs.Prelude.{◌≡◌, ℕ, ◌<◌, Bool, true, false, cond, List, length, slice_get, Some, None, Ok, Err, Option, ◌==◌, nat_lt, ⊤}
use Rattle.word.specs.declared.word.Word.{Word}
use Rattle.rack.specs.declared.fault.UnitFault.{UnitFault}
use Rattle.rack.specs.declared.fault.UnitFault.TheVariants.{Absent, NotAllowed, NoBlock, Damaged}
use Rattle.rack.specs.declared.kind.Kind.{Kind}
use Rattle.rack.specs.declared.kind.Kind.TheVariants.{Tape, Disk, Reader, Punch, Printer}
use Rattle.rack.specs.declared.request.Transfer.{Transfer}
use Rattle.rack.specs.declared.request.Transfer.TheVariants.{Take, Put, Shift}
use Rattle.rack.specs.declared.standing.Ring.{Ring}
use Rattle.rack.specs.declared.standing.Ring.TheVariants.{In, Out}
use Rattle.rack.specs.declared.unit.Unit.{Unit}
use Rattle.rack.specs.Transfers.{Answer, at_position, block_in, take_from}
use Rattle.rack.specs.Units.{Holding, kind_of}

-- whether the ring is in
abbrev pub is_in : Ring → Bool
is_in In = true
is_in Out = false

-- the kinds that are read, those that are written, and the shifts that they take
abbrev pub reads : Kind → Bool
reads Tape = true
reads Disk = true
reads Reader = true
reads Punch = false
reads Printer = false

abbrev pub writes : Kind → Bool
writes Tape = true
writes Disk = true
writes Reader = false
writes Punch = true
writes Printer = true

abbrev pub shifts : Kind → ℕ → Bool
shifts Tape m = true
shifts Disk m = m == 0
shifts Reader m = false
shifts Punch m = false
shifts Printer m = false

-- whether a unit allows a transfer
abbrev pub allows : Kind → Ring → Transfer → Bool
allows k r (Take a) = reads k
allows k r (Put a) = cond (writes k) (is_in r) false
allows k r (Shift m) = shifts k m.magnitude

-- the number of the block that is read or written: on a disk the one asked for, on tape and reader the next
-- one, on punch and printer the one after the last
abbrev pub place_of : Kind → ℕ → Holding → ℕ
place_of Tape a h = h.position
place_of Disk a h = a
place_of Reader a h = h.position
place_of Punch a h = length h.blocks
place_of Printer a h = length h.blocks

-- how many blocks may be written: a disk gets no more than it has
abbrev pub room_of : Kind → Holding → ℕ
room_of Tape h = h.capacity
room_of Disk h = length h.blocks
room_of Reader h = h.capacity
room_of Punch h = h.capacity
room_of Printer h = h.capacity

-- what is wrong with a block that is to be read
abbrev pub cause_at : Unit → ℕ → Option (Option (List Word)) → Option UnitFault
cause_at u p None = Some (NoBlock u p)
cause_at u p (Some None) = Some (Damaged u p)
cause_at u p (Some (Some ws)) = None

-- the first cause of rejection on a unit that is present and allows the transfer
abbrev pub cause_of_block : Unit → Transfer → Holding → Kind → Option UnitFault
cause_of_block u (Take a) h k = cause_at u (place_of k a h) (slice_get h.blocks (place_of k a h))
cause_of_block u (Put a) h k = cond (nat_lt (place_of k a h) (room_of k h)) None (Some (NoBlock u (place_of k a h)))
cause_of_block u (Shift m) h k = None

abbrev pub cause_on : Unit → Transfer → Holding → Option Kind → Option UnitFault
cause_on u t h None = Some (Absent u)
cause_on u t h (Some k) = cond (allows k h.ring t) (cause_of_block u t h k) (Some (NotAllowed u))

-- the first cause of rejection: 14 to 17 in their order
abbrev pub first_cause : Unit → Transfer → Option Holding → Option UnitFault
first_cause u t None = Some (Absent u)
first_cause u t (Some h) = cause_on u t h (kind_of u.number)

-- the block that an answer gives
abbrev pub given : Answer → Option (List Word)
given (Ok e) = Some e.block
given (Err f) = None

-- a unit back at the position where it stood before
abbrev pub back_to : Option Holding → Option Holding → Option Holding
back_to None new = new
back_to (Some old) None = None
back_to (Some old) (Some new) = Some (at_position old.position new)

-- what was put on a tape or a disk is what a Take at the same place gives
abbrev pub TakenAgain : Unit → Transfer → List Word → Option Holding → Option Holding → Type 0
TakenAgain u (Take a) ws old new = ⊤
TakenAgain u (Put a) ws old new = u.number < 16 → given (take_from u a (back_to old new)) ≡ Some (block_in ws Tape)
TakenAgain u (Shift m) ws old new = ⊤
