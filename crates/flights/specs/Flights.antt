-- Transfers in flight: what each does when it is carried out, and which go when.
use Rattle.std.specs.Prelude.{ℕ, zero, suc, ◌+◌, ◌-◌, max, Bool, true, false, cond, ◌&&◌, List, [], ◌∷◌, Some, None, Ok, Err, Option, Result, ◌==◌, nat_lt, nat_le, slice_index_or}
use Rattle.cpu.specs.Programs.{Memory}
use Rattle.cpu.specs.declared.registers.Registers.{Registers}
use Rattle.cpu.specs.declared.step.Span.{Span}
use Rattle.rack.specs.Transfers.{Answer, Effect, perform, updated}
use Rattle.rack.specs.Units.{Holdings}
use Rattle.rack.specs.declared.request.Transfer.{Transfer}
use Rattle.rack.specs.declared.request.Transfer.TheVariants.{Take, Put, Shift}
use Rattle.rack.specs.declared.unit.Unit.{Unit}
use Rattle.word.specs.declared.sign.Sign.TheVariants.{Plus}
use Rattle.word.specs.declared.word.Word.{Word}
use Rattle.word.specs.Word.{word_of}
use Rattle.flights.specs.declared.fault.Fault.{Fault}
use Rattle.flights.specs.declared.fault.Fault.TheVariants.{Transfer as of_transfer}
use Rattle.flights.specs.declared.flight.Event.{Event}
use Rattle.flights.specs.declared.flight.Event.TheVariants.{Issued, CarriedOut, Acknowledged}
use Rattle.flights.specs.declared.flight.Flight.{Flight}
use Rattle.flights.specs.declared.flight.UnitState.{UnitState}
use Rattle.flights.specs.declared.flight.UnitState.TheVariants.{Idle, Busy, Done}

-- how many units there are
abbrev pub units : ℕ
units = 19

-- a unit by its number
abbrev pub unit_at : ℕ → Unit
unit_at u = record { number = u }

-- the states of the units
abbrev pub States : Type 0
States = ℕ → UnitState

-- the states with another one of a unit
unfoldable pub with_state : States → ℕ → UnitState → States
with_state s u x v = cond (v == u) x (s v)

-- a list of unit states, by the numbers of the units
unfoldable pub states_in : List UnitState → States
states_in xs u = slice_index_or xs u Idle

-- the transfer of an open unit
abbrev pub opened : UnitState → Option Flight
opened Idle = None
opened (Busy x due) = Some x
opened (Done x) = Some x

-- what becomes of a unit's state when a transfer is issued, when it was carried out, and when the program
-- acknowledges it
abbrev pub state_after : Event → UnitState → UnitState
state_after (Issued x due) s = Busy x due
state_after CarriedOut Idle = Idle
state_after CarriedOut (Busy x due) = Done x
state_after CarriedOut (Done x) = Done x
state_after Acknowledged s = Idle

-- whether a transfer fills its area
abbrev pub takes : Transfer → Bool
takes (Take a) = true
takes (Put a) = false
takes (Shift m) = false

-- whether it writes its area on the unit
abbrev pub puts : Transfer → Bool
puts (Take a) = false
puts (Put a) = true
puts (Shift m) = false

-- whether a location lies in an area
unfoldable pub covers : Span → ℕ → Bool
covers s l = nat_le s.start l && nat_lt l (s.start + s.count)

-- whether two areas have a location in common
unfoldable pub overlap : Span → Span → Bool
overlap s t =
    (nat_lt 0 s.count && nat_lt 0 t.count) && (nat_lt s.start (t.start + t.count) && nat_lt t.start (s.start + s.count))

-- n words of memory from l on
unfoldable pub words_at : Memory → ℕ → ℕ → List Word
words_at m l zero = []
words_at m l (suc n) = m l ∷ words_at m (suc l) n

-- the words that a transfer gives to its unit
unfoldable pub given : Flight → Memory → List Word
given x m = cond (puts x.transfer) (words_at m x.area.start x.area.count) []

-- memory after a transfer: the block fills the area of an IN
unfoldable pub delivered : Flight → List Word → Memory → Memory
delivered x ws m l =
    cond (takes x.transfer && covers x.area l) (slice_index_or ws (l - x.area.start) (word_of Plus 0)) (m l)

-- what the program and the units have to do with each other
pub record Core : Type 0 where
  pub registers : Registers
  pub memory : Memory
  pub units : Holdings
  pub states : States

-- the transfers of the open units
abbrev pub opens : Core → ℕ → Option Flight
opens c u = opened (c.states u)

-- a unit after its transfer was carried out
abbrev pub landed : Core → ℕ → Flight → Effect → Core
landed c u x e =
    record { registers = c.registers; memory = delivered x e.block c.memory; units = updated c.units u (Some e.holding); states = with_state c.states u (Done x) }

-- a unit's transfer is carried out; where it is rejected nothing changes
abbrev pub carried : Core → ℕ → Flight → Answer → Result Core Fault
carried c u x (Ok e) = Ok (landed c u x e)
carried c u x (Err f) = Err (of_transfer (record { location = x.location; fault = f }))

abbrev pub carry : Core → ℕ → Flight → Result Core Fault
carry c u x = carried c u x (perform (unit_at u) x.transfer (given x c.memory) (c.units u))

-- the transfer that goes next: none, or a unit's, with its due time
pub data Next : Type 0 where
  nothing : Next
  flies : ℕ → Flight → ℕ → Next

-- of the units so far and one more, the one due first and not after a time, the smaller of two due at once
abbrev pub sooner : ℕ → Next → ℕ → UnitState → Next
sooner by n u Idle = n
sooner by n u (Done x) = n
sooner by nothing u (Busy x due) = cond (nat_le due by) (flies u x due) nothing
sooner by (flies v y at) u (Busy x due) = cond (nat_le due by && nat_lt due at) (flies u x due) (flies v y at)

-- the transfer that goes next among the first n units, by a time
unfoldable pub first_due : ℕ → ℕ → States → Next
first_due zero by s = nothing
first_due (suc n) by s = sooner by (first_due n by s) n (s n)

-- what comes of carrying out transfers: all went, or one was rejected when it was due
pub data Drained : Type 0 where
  clear : Core → Drained
  broke : Core → ℕ → Fault → Drained

abbrev pub on_carry : Core → ℕ → (Core → Drained) → Result Core Fault → Drained
on_carry c due k (Ok d) = k d
on_carry c due k (Err f) = broke c due f

abbrev pub on_due : Core → (Core → Drained) → Next → Drained
on_due c k nothing = clear c
on_due c k (flies u x due) = on_carry c due k (carry c u x)

-- all that is due by a time goes, in order, n transfers at most
unfoldable pub drain : ℕ → ℕ → Core → Drained
drain zero by c = clear c
drain (suc n) by c = on_due c (drain n by) (first_due units by c.states)

-- the later of a time and that when a unit is ready
abbrev pub later : ℕ → UnitState → ℕ
later t Idle = t
later t (Busy x due) = max t due
later t (Done x) = t

-- when the last of the first n units is ready, at least a time
unfoldable pub last_due : ℕ → ℕ → States → ℕ
last_due zero t s = t
last_due (suc n) t s = later (last_due n t s) (s n)
