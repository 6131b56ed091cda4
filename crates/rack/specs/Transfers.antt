-- What Take, Put and Shift do to a unit, and for which causes they are rejected.
use Rattle.std.specs.Prelude.{◌≡◌, ℕ, suc, ◌+◌, ◌-◌, min, cond, List, [], ◌∷◌, ◌++◌, map, length, take, replicate, slice_get, slice_set, Some, None, Ok, Err, Option, Result, ◌==◌, nat_lt, ⊤}
use Rattle.word.specs.declared.sign.Sign.{Sign}
use Rattle.word.specs.declared.sign.Sign.TheVariants.{Plus, Minus}
use Rattle.word.specs.declared.word.Word.{Word}
use Rattle.word.specs.Word.{word_of, word_from, bytes_of}
use Rattle.rack.specs.declared.fault.UnitFault.{UnitFault}
use Rattle.rack.specs.declared.fault.UnitFault.TheVariants.{Absent, NotAllowed, NoBlock, Damaged}
use Rattle.rack.specs.declared.kind.Kind.{Kind}
use Rattle.rack.specs.declared.kind.Kind.TheVariants.{Tape, Disk, Reader, Punch, Printer}
use Rattle.rack.specs.declared.request.Transfer.{Transfer}
use Rattle.rack.specs.declared.request.Transfer.TheVariants.{Take, Put, Shift}
use Rattle.rack.specs.declared.standing.Ring.{Ring}
use Rattle.rack.specs.declared.standing.Ring.TheVariants.{In, Out}
use Rattle.rack.specs.declared.unit.Unit.{Unit}
use Rattle.rack.specs.Units.{Holding, Holdings, kind_of, block_size}

-- the numbers of the rejections
abbrev pub fault_number : UnitFault → ℕ
fault_number (Absent u) = 14
fault_number (NotAllowed u) = 15
fault_number (NoBlock u p) = 16
fault_number (Damaged u p) = 17

-- what a transfer does: the unit after it, and the block that it gives, which is empty unless it is a Take
pub record Effect : Type 0 where
  pub holding : Holding
  pub block : List Word

-- the answer of a transfer that is tried on a unit
abbrev pub Answer : Type 0
Answer = Result Effect UnitFault

-- a holding at another position
abbrev pub at_position : ℕ → Holding → Holding
at_position p h = record { capacity = h.capacity; blocks = h.blocks; position = p; ring = h.ring }

-- a holding with other blocks
abbrev pub with_blocks : List (Option (List Word)) → Holding → Holding
with_blocks bs h = record { capacity = h.capacity; blocks = bs; position = h.position; ring = h.ring }

-- a block that is read: there must be one, and it must not be damaged
abbrev pub read_block : Unit → ℕ → Holding → Option (Option (List Word)) → Answer
read_block u p h None = Err (NoBlock u p)
read_block u p h (Some None) = Err (Damaged u p)
read_block u p h (Some (Some ws)) = Ok (record { holding = h; block = ws })

-- the next block, after which the position is one more
abbrev pub read_next : Unit → Holding → Answer
read_next u h = read_block u h.position (at_position (suc h.position) h) (slice_get h.blocks h.position)

-- Take: tape and reader give the next block, a disk the block asked for
abbrev pub take_on : Unit → ℕ → Kind → Holding → Answer
take_on u a Tape h = read_next u h
take_on u a Disk h = read_block u a h (slice_get h.blocks a)
take_on u a Reader h = read_next u h
take_on u a Punch h = Err (NotAllowed u)
take_on u a Printer h = Err (NotAllowed u)

-- an answer without a block
abbrev pub moved_to : Holding → Answer
moved_to h = Ok (record { holding = h; block = [] })

-- the blocks with the block at p replaced, or with one more where p is their count
abbrev pub written_at : ℕ → List Word → List (Option (List Word)) → List (Option (List Word))
written_at p ws bs = cond (nat_lt p (length bs)) (slice_set bs p (Some ws)) (bs ++ (Some ws ∷ []))

-- the next block is written; there is none where the position is at the capacity
abbrev pub write_next : Unit → List Word → Holding → Answer
write_next u ws h =
    cond (nat_lt h.position h.capacity)
    (moved_to (at_position (suc h.position) (with_blocks (written_at h.position ws h.blocks) h)))
    (Err (NoBlock u h.position))

-- the block asked for is written
abbrev pub write_at : Unit → ℕ → List Word → Holding → Answer
write_at u a ws h = cond (nat_lt a (length h.blocks)) (moved_to (with_blocks (slice_set h.blocks a (Some ws)) h)) (Err (NoBlock u a))

-- a word as punch and printer keep it: plus, with 0 for each byte that has no character
abbrev pub printable : Word → Word
printable w = word_from Plus (map (λ b. cond (nat_lt b 56) b 0) (bytes_of w))

-- one more card or line
abbrev pub write_text : Unit → List Word → Holding → Answer
write_text u ws h =
    cond (nat_lt (length h.blocks) h.capacity)
    (moved_to (with_blocks (h.blocks ++ (Some (map printable ws) ∷ [])) h))
    (Err (NoBlock u (length h.blocks)))

-- nothing is written where the ring is out
abbrev pub if_ring : Unit → Ring → Answer → Answer
if_ring u In r = r
if_ring u Out r = Err (NotAllowed u)

-- Put: a tape has the next block written, a disk the block asked for; punch and printer have one more
abbrev pub put_on : Unit → ℕ → List Word → Kind → Holding → Answer
put_on u a ws Tape h = if_ring u h.ring (write_next u ws h)
put_on u a ws Disk h = if_ring u h.ring (write_at u a ws h)
put_on u a ws Reader h = Err (NotAllowed u)
put_on u a ws Punch h = if_ring u h.ring (write_text u ws h)
put_on u a ws Printer h = if_ring u h.ring (write_text u ws h)

-- where a tape at p of n blocks goes by a number other than 0: it stays from 0 to n
abbrev pub shifted_by : Sign → ℕ → ℕ → ℕ → ℕ
shifted_by Plus m p n = min (p + m) n
shifted_by Minus m p n = p - m

-- and by a number: 0 takes it to its beginning
abbrev pub shifted_to : Word → ℕ → ℕ → ℕ
shifted_to m p n = cond (m.magnitude == 0) 0 (shifted_by m.sign m.magnitude p n)

-- Shift: a tape moves; a disk takes a shift by 0, which does nothing
abbrev pub shift_on : Unit → Word → Kind → Holding → Answer
shift_on u m Tape h = moved_to (at_position (shifted_to m h.position (length h.blocks)) h)
shift_on u m Disk h = cond (m.magnitude == 0) (moved_to h) (Err (NotAllowed u))
shift_on u m Reader h = Err (NotAllowed u)
shift_on u m Punch h = Err (NotAllowed u)
shift_on u m Printer h = Err (NotAllowed u)

-- what is tried on a unit is rejected first where the unit is absent
abbrev pub on_kind : Unit → (Kind → Holding → Answer) → Holding → Option Kind → Answer
on_kind u f h None = Err (Absent u)
on_kind u f h (Some k) = f k h

abbrev pub on_unit : Unit → (Kind → Holding → Answer) → Option Holding → Answer
on_unit u f None = Err (Absent u)
on_unit u f (Some h) = on_kind u f h (kind_of u.number)

-- the block that an area gives to a unit of a kind: its first words, and +0 for those that it has not
unfoldable pub block_in : List Word → Kind → List Word
block_in ws k = take (block_size k) (ws ++ replicate (block_size k) (word_of Plus 0))

-- Take, Put and Shift on a unit that may be absent; an area gives the block that is put
unfoldable pub take_from : Unit → ℕ → Option Holding → Answer
take_from u a h = on_unit u (take_on u a) h

unfoldable pub put_to : Unit → ℕ → List Word → Option Holding → Answer
put_to u a ws h = on_unit u (λ k. put_on u a (block_in ws k) k) h

unfoldable pub shift_of : Unit → Word → Option Holding → Answer
shift_of u m h = on_unit u (shift_on u m) h

-- a transfer, of whichever kind
abbrev pub perform : Unit → Transfer → List Word → Option Holding → Answer
perform u (Take a) ws h = take_from u a h
perform u (Put a) ws h = put_to u a ws h
perform u (Shift m) ws h = shift_of u m h

-- the holdings with another one at a unit
unfoldable pub updated : Holdings → ℕ → Option Holding → Holdings
updated g u h v = cond (v == u) h (g v)

-- what a call leaves of one unit's holding: what the answer says, or all as it was where that is a rejection
abbrev pub Leaves : Answer → Holding → Holding → Result ⊤ UnitFault → Type 0
Leaves (Ok e) old new (Ok x) = new ≡ e.holding
Leaves (Ok e) old new (Err f) = ⊥
Leaves (Err f) old new (Ok x) = ⊥
Leaves (Err f) old new (Err g) = (g ≡ f) × (new ≡ old)

-- what a call on one unit leaves of a rack: no other unit alters, and a rejected call alters none
abbrev pub After : Unit → Answer → Holdings → Holdings → Result ⊤ UnitFault → Type 0
After u (Ok e) old new (Ok x) = new ≡ updated old u.number (Some e.holding)
After u (Ok e) old new (Err f) = ⊥
After u (Err f) old new (Ok x) = ⊥
After u (Err f) old new (Err g) = (g ≡ f) × (new ≡ old)

-- an area with a block's words at its front, as far as both go
abbrev pub filled : List Word → List Word → List Word
filled [] ws = []
filled (x ∷ xs) [] = x ∷ xs
filled (x ∷ xs) (w ∷ ws) = w ∷ filled xs ws

-- an area after a transfer: the block is in it, or it is as it was
abbrev pub received : Answer → List Word → List Word
received (Ok e) area = filled area e.block
received (Err f) area = area
