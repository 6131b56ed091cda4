-- When transfers are due, and where areas are open.
use Rattle.std.proofs.Common.{◌≡◌, ℕ, ◌+◌, ◌<◌, ◌≤◌, true, leb, Some, None, Ok, Option, IfSome, refl, arith, add-one, leb-true, le-leb, eqb-true}
use Rattle.std.proofs.lemmas.Bool.{and_parts}
use Rattle.std.proofs.lemmas.Bool.Decides.{nat_tests}
use Rattle.flights.specs.Flights.{States, units, last_due, later, opened, state_after}
use Rattle.flights.specs.Kept.{between, due_from, fits_if, fits_unit, words_moved}
use Rattle.flights.specs.declared.flight.Event.TheVariants.{CarriedOut}
use Rattle.flights.specs.declared.flight.Flight.{Flight}
use Rattle.flights.specs.declared.flight.UnitState.{UnitState}
use Rattle.flights.specs.declared.flight.UnitState.TheVariants.{Idle, Busy, Done}
use Rattle.rack.specs.Units.{Holding, kind_of}
use Rattle.rack.specs.declared.kind.Kind.{Kind}
use Rattle.rack.specs.declared.request.Transfer.{Transfer}
use Rattle.rack.specs.declared.unit.Unit.{Unit as Device}
use Rattle.word.specs.declared.word.Word.{Word}
use Rattle.flights.specs.Issues.{flight_if}

pub last_none : (t : ℕ) (s : States) → t ≡ last_due 0 t s
unfolding last_due
last_none t s = refl

pub last_more : (n t : ℕ) (s : States) → last_due (n + 1) t s ≡ later (last_due n t s) (s n)
unfolding last_due
last_more n t s = rw add-one

pub due_sooner : (a b : ℕ) (s : UnitState) → a ≤ b → due_from b s ≡ true → due_from a s ≡ true
due_sooner a b Idle l h = refl
due_sooner a b (Busy x due) l h = let k = leb-true b due h in le-leb a due (omega arith)
due_sooner a b (Done x) l h = refl

pub between_wider : (low high a b : ℕ) (o : Option Flight) → a ≤ low → high ≤ b → between low high o ≡ true → between a b o ≡ true
between_wider low high a b None l m h = refl
between_wider low high a b (Some x) l m h = grind (arith, nat_tests)

-- the area of a transfer that fits its unit lies in memory, and has the words that it moves
pub area_within : (u : ℕ) (x : Flight) → fits_unit u x ≡ true → x.area.start + x.area.count ≤ 4000
area_within u x h = leb-true (x.area.start + x.area.count) 4000 ((and_parts (leb (x.area.start + x.area.count) 4000) _ h).0)

pub area_counted : (u : ℕ) (x : Flight) → fits_unit u x ≡ true → x.area.count ≡ words_moved (kind_of u) x.transfer
area_counted u x h = eqb-true x.area.count _ ((and_parts (leb (x.area.start + x.area.count) 4000) _ h).1)

pub within_if : (u : ℕ) (o : Option Flight) → fits_if u o ≡ true → IfSome o (λ x. x.area.start + x.area.count ≤ 4000)
within_if u None h = tt
within_if u (Some x) h = area_within u x h

-- a transfer that was carried out is open as before
pub opened_still : (s : UnitState) → opened (state_after CarriedOut s) ≡ opened s
opened_still Idle = refl
opened_still (Busy x due) = refl
opened_still (Done x) = refl

pub due_still : (t : ℕ) (s : UnitState) → due_from t s ≡ true → due_from t (state_after CarriedOut s) ≡ true
due_still t Idle h = refl
due_still t (Busy x due) h = refl
due_still t (Done x) h = refl

-- a transfer that may be issued is of a unit
pub kind_unit : (n : ℕ) (k : Kind) → kind_of n ≡ Some k → n < units
kind_unit n k h = grind (arith, nat_tests)

pub flight_unit : (u : Device) (x : Transfer) (v : Word) (l : ℕ) (h : Option Holding) (y : Flight) → flight_if u x v l h (kind_of u.number) ≡ Ok y → u.number < units
flight_unit u x v l h y i = go h (kind_of u.number) refl i
  where
    go : (h : Option Holding) (k : Option Kind) → kind_of u.number ≡ k → flight_if u x v l h k ≡ Ok y → u.number < units
    go None k j i = absurd (cc i)
    go (Some g) None j i = absurd (cc i)
    go (Some g) (Some k) j i = kind_unit u.number k j
