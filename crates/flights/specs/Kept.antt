-- What is known of the transfers in flight besides the units' states: when the first is due, and a part of
-- memory outside which no area is open.
use Rattle.std.specs.Prelude.{ℕ, ◌+◌, Bool, true, ◌&&◌, ◌||◌, Some, None, Option, ◌==◌, nat_le}
use Rattle.cpu.specs.declared.step.Span.{Span}
use Rattle.rack.specs.Units.{kind_of, block_size}
use Rattle.rack.specs.declared.kind.Kind.{Kind}
use Rattle.rack.specs.declared.request.Transfer.{Transfer}
use Rattle.rack.specs.declared.request.Transfer.TheVariants.{Take, Put, Shift}
use Rattle.flights.specs.declared.flight.Flight.{Flight}
use Rattle.flights.specs.declared.flight.UnitState.{UnitState}
use Rattle.flights.specs.declared.flight.UnitState.TheVariants.{Idle, Busy, Done}

-- how many words a transfer moves on a unit of a kind
abbrev pub words_moved : Option Kind → Transfer → ℕ
words_moved None x = 0
words_moved (Some k) (Take a) = block_size k
words_moved (Some k) (Put a) = block_size k
words_moved (Some k) (Shift m) = 0

-- a transfer's area lies in memory and has the words that it moves on unit u
abbrev pub fits_unit : ℕ → Flight → Bool
fits_unit u x = nat_le (x.area.start + x.area.count) 4000 && (x.area.count == words_moved (kind_of u) x.transfer)

abbrev pub fits_if : ℕ → Option Flight → Bool
fits_if u None = true
fits_if u (Some x) = fits_unit u x

-- a unit is not busy, or its transfer is due at a time or after it
abbrev pub due_from : ℕ → UnitState → Bool
due_from t Idle = true
due_from t (Busy x due) = nat_le t due
due_from t (Done x) = true

-- an open area is empty, or lies from one location to before another
abbrev pub between : ℕ → ℕ → Option Flight → Bool
between low high None = true
between low high (Some x) = (x.area.count == 0) || (nat_le low x.area.start && nat_le (x.area.start + x.area.count) high)

-- no location of a span lies there
abbrev pub outside : ℕ → ℕ → Span → Bool
outside low high s = (s.count == 0) || nat_le high s.start || nat_le (s.start + s.count) low
