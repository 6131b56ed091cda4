-- The areas of the examples, as antt computes them from the definitions.
use Rattle.std.proofs.Common.{◌≡◌, ℕ, Ok, Err, Some, Option, Result, refl, ap}
use Rattle.cpu.specs.Instructions.{location_of}
use Rattle.cpu.specs.declared.fault.Fault.{Fault as Rejection}
use Rattle.cpu.specs.declared.step.Span.{Span}
use Rattle.flights.specs.Issues.{area_at, flight_if, flight_in}
use Rattle.flights.specs.Stands.{Issues}
use Rattle.flights.specs.declared.fault.Fault.{Fault}
use Rattle.rack.specs.Units.{Holding}
use Rattle.rack.specs.declared.kind.Kind.TheVariants.{Reader}
use Rattle.rack.specs.declared.request.Transfer.{Transfer}
use Rattle.rack.specs.declared.request.Transfer.TheVariants.{Take}
use Rattle.rack.specs.declared.unit.Unit.{Unit}
use Rattle.word.specs.Word.{word_of}
use Rattle.word.specs.declared.sign.Sign.TheVariants.{Plus}
use Rattle.word.specs.declared.word.Word.{Word}
use Rattle.examples.specs.Examples.{area_of_input, area_or_fault, table}

pub last_computed : area_of_input 3984 ≡ table.last_area
unfolding table word_of
last_computed = refl

pub past_computed : area_of_input 3985 ≡ table.past_the_end
unfolding table word_of
past_computed = refl

-- a transfer that is refused for its area
in_area : (u : Unit) (x : Transfer) (l : ℕ) (r : Result Span Rejection) (f : Fault) → Issues u (flight_in x l r) (Err f) → Err f ≡ area_or_fault r
in_area u x l (Ok s) f h = absurd h
in_area u x l (Err e) f h = ap Err h

pub refused : (w : Word) (n : ℕ) (o : Option Holding) (h : Holding) (f : Fault) → w ≡ word_of Plus n → o ≡ Some h → Issues (record { number = 16 }) (flight_if (record { number = 16 }) (Take 0) w 0 o (Some Reader)) (Err f) → Err f ≡ area_of_input n
refused w n o h f p q i = in_area _ (Take 0) 0 (area_at 16 (word_of Plus n) (location_of (word_of Plus n))) f (rw (p, q) at i)
