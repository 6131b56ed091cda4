-- The watch: what is met of open transfers, and the marks.
use Rattle.std.specs.Prelude.{ℕ, zero, suc, Bool, false, cond, not, ◌&&◌, ◌||◌, List, Some, None, Option, ◌==◌}
use Rattle.std.specs.List.{list_any}
use Rattle.std.specs.Option.{option_map, option_or}
use Rattle.flights.specs.Flights.{units, unit_at, takes, puts, covers, overlap}
use Rattle.flights.specs.declared.flight.Flight.{Flight}
use Rattle.flights.specs.declared.mark.Mark.{Mark}
use Rattle.flights.specs.declared.mark.MarkKind.{MarkKind}
use Rattle.flights.specs.declared.mark.MarkKind.TheVariants.{InputTouched, OutputWritten, AreasMeet, UnitPolled, JStored}

-- the numbers of the kinds
abbrev pub kind_number : MarkKind → ℕ
kind_number InputTouched = 1
kind_number OutputWritten = 2
kind_number AreasMeet = 3
kind_number UnitPolled = 4
kind_number JStored = 5

-- the open transfers, by unit
abbrev pub Open : Type 0
Open = ℕ → Option Flight

-- the smallest of the first n units of which f holds
unfoldable pub first_unit : ℕ → (ℕ → Bool) → Option ℕ
first_unit zero f = None
first_unit (suc n) f = option_or (first_unit n f) (cond (f n) (Some n) None)

-- a mark of a kind at a location, for the unit that is met, if one is
abbrev pub mark_for : MarkKind → ℕ → Option ℕ → Option Mark
mark_for k l u = option_map (λ v. record { kind = k; unit = unit_at v; location = l }) u

-- whether a location is in the area of an open IN, and of an open OUT
abbrev pub in_input : ℕ → Option Flight → Bool
in_input l None = false
in_input l (Some x) = takes x.transfer && covers x.area l

abbrev pub in_output : ℕ → Option Flight → Bool
in_output l None = false
in_output l (Some x) = puts x.transfer && covers x.area l

-- whether words that are read or written are in an open IN's area; words written in an open OUT's
abbrev pub touches_input : List ℕ → List ℕ → Option Flight → Bool
touches_input rs ws x = list_any (λ l. in_input l x) rs || list_any (λ l. in_input l x) ws

abbrev pub writes_output : List ℕ → Option Flight → Bool
writes_output ws x = list_any (λ l. in_output l x) ws

-- kinds 1 and 2, for an instruction at l that reads the words rs and writes the words ws
unfoldable pub touch_mark : Open → List ℕ → List ℕ → ℕ → Option Mark
touch_mark o rs ws l =
    option_or
    (mark_for InputTouched l (first_unit units (λ u. touches_input rs ws (o u))))
    (mark_for OutputWritten l (first_unit units (λ u. writes_output ws (o u))))

-- whether a transfer and an open one meet, one of them an IN
abbrev pub meets : Flight → Option Flight → Bool
meets x None = false
meets x (Some y) = (takes x.transfer || takes y.transfer) && overlap x.area y.area

-- kind 3, for a transfer issued of unit u
unfoldable pub meet_mark : Open → ℕ → Flight → ℕ → Option Mark
meet_mark o u x l = mark_for AreasMeet l (first_unit units (λ v. not (v == u) && meets x (o v)))

-- kind 4, for a unit that is asked about
abbrev pub poll_mark : ℕ → ℕ → Mark
poll_mark u l = record { kind = UnitPolled; unit = unit_at u; location = l }

-- kind 5
abbrev pub j_mark : ℕ → Mark
j_mark l = record { kind = JStored; unit = unit_at 0; location = l }
