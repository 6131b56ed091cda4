-- When a transfer may be issued: both machines find the same, and only units have transfers.
use Rattle.std.proofs.Common.{◌≡◌, ℕ, ◌<◌, List, Option, Some, None, Ok, Err, refl, sym, ap, ◌∙◌, arith}
use Rattle.std.proofs.lemmas.Bool.Decides.{nat_tests}
use Rattle.cpu.specs.Programs.{Memory}
use Rattle.flights.specs.Flights.{units, unit_at, given}
use Rattle.flights.specs.Issues.{flight_if}
use Rattle.flights.specs.declared.flight.Flight.{Flight}
use Rattle.flights.specs.declared.flight.UnitState.{UnitState}
use Rattle.flights.specs.declared.flight.UnitState.TheVariants.{Idle, Busy, Done}
use Rattle.rack.specs.Transfers.{Answer, perform, take_from, put_to, shift_of}
use Rattle.rack.specs.Units.{Holding, kind_of}
use Rattle.rack.specs.declared.fault.UnitFault.TheVariants.{Absent}
use Rattle.rack.specs.declared.kind.Kind.{Kind}
use Rattle.rack.specs.declared.request.Transfer.{Transfer}
use Rattle.rack.specs.declared.request.Transfer.TheVariants.{Take, Put, Shift}
use Rattle.rack.specs.declared.unit.Unit.{Unit as Device}
use Rattle.word.specs.declared.word.Word.{Word}
use Rattle.rooms.proofs.Eager.{Life}
use Rattle.rooms.proofs.Eager.Life.{holding}
use Rattle.rooms.proofs.Relation.{Pending, UnitRel}

kind_unit : (n : ℕ) (k : Kind) → kind_of n ≡ Some k → n < units
kind_unit n k h = grind (arith, nat_tests)

-- a transfer is of a unit
pub flight_unit : (u : Device) (x : Transfer) (v : Word) (l : ℕ) (h : Option Holding) (y : Flight) → flight_if u x v l h (kind_of u.number) ≡ Ok y → u.number < units
flight_unit u x v l h y i = go h (kind_of u.number) refl i
  where
    go : (h : Option Holding) (k : Option Kind) → kind_of u.number ≡ k → flight_if u x v l h k ≡ Ok y → u.number < units
    go None k j i = absurd (cc i)
    go (Some g) None j i = absurd (cc i)
    go (Some g) (Some k) j i = kind_unit u.number k j

-- an absent unit rejects each transfer
absent_rejects : (u : Device) (t : Transfer) (ws : List Word) → perform u t ws None ≡ Err (Absent u)
unfolding take_from put_to shift_of
absent_rejects u (Take a) ws = refl
absent_rejects u (Put a) ws = refl
absent_rejects u (Shift m) ws = refl

-- of present units the same is found
both_present : (u : Device) (x : Transfer) (v : Word) (l : ℕ) (g h : Holding) (k : Option Kind) → flight_if u x v l (Some g) k ≡ flight_if u x v l (Some h) k
both_present u x v l g h None = refl
both_present u x v l g h (Some k) = refl

-- a unit's transfer under way leaves it present
pub flight_alike : (u : Device) (x : Transfer) (v : Word) (l : ℕ) (k : Option Kind) (z : UnitState) (h g : Option Holding) (a : Life) (tm em : Memory)
    → UnitRel u.number z h a tm em → a ≡ holding g → flight_if u x v l h k ≡ flight_if u x v l g k
flight_alike u x v l k Idle h g a tm em r i = let e : h ≡ g = cc in ap (λ h. flight_if u x v l h k) e
flight_alike u x v l k (Done y) h g a tm em r i = let e : h ≡ g = cc in ap (λ h. flight_if u x v l h k) e
flight_alike u x v l k (Busy y due) h g a tm em r i = go h (perform (unit_at u.number) y.transfer (given y tm) h) refl r
  where
    go : (h : Option Holding) (b : Answer) → perform (unit_at u.number) y.transfer (given y tm) h ≡ b → Pending y a em b → flight_if u x v l h k ≡ flight_if u x v l g k
    go None (Ok e) j q = absurd (cc (absent_rejects (unit_at u.number) y.transfer (given y tm), j))
    go (Some f) (Ok e) j q =
        let p : g ≡ Some e.holding = cc (q.0, i) in
        both_present u x v l f e.holding k ∙ ap (λ h. flight_if u x v l h k) (sym p)
    go h (Err e) j q = absurd (cc (q, i))
