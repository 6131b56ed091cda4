-- A transfer that is carried out keeps the relation, and one that is rejected has left its unit dead.
use Rattle.std.proofs.Common.{◌≡◌, ℕ, zero, suc, ◌<◌, Bool, true, false, ◌⊎◌, inl, inr, Option, Some, Ok, Err, refl, sym, ap, subst, ◌∙◌}
use mathlib.Core.Path.{fun_ext}
use Rattle.std.proofs.lemmas.Bool.{cases_eq, both_ways, false_from_ne_true}
use Rattle.cpu.specs.Programs.{Memory}
use Rattle.flights.specs.Flights.{Core, Next, Drained, units, unit_at, with_state, opened, given, delivered, landed, carried, first_due, on_carry, on_due, drain}
use Rattle.flights.specs.Flights.Drained.{clear, broke}
use Rattle.flights.specs.Flights.Next.{nothing, flies}
use Rattle.flights.specs.Watch.{in_input, in_output}
use Rattle.flights.specs.declared.flight.Flight.{Flight}
use Rattle.flights.specs.declared.flight.UnitState.{UnitState}
use Rattle.flights.specs.declared.flight.UnitState.TheVariants.{Idle, Busy, Done}
use Rattle.rack.specs.Transfers.{Answer, Effect, perform, updated}
use Rattle.rack.specs.Units.{Holding}
use Rattle.rooms.proofs.Areas.{given_same, delivered_in, delivered_out}
use Rattle.flights.proofs.Dues.{Found, found}
use Rattle.rooms.proofs.Eager.{Eager, Life}
use Rattle.rooms.proofs.Eager.Life.{dead}
use Rattle.rooms.proofs.Relation.{busy_at, Pending, UnitRel, Low, Quiet, Rel}
use Rattle.flights.proofs.Stores.{at_other, all_at, both_at}

-- busy means open
pub busy_open : (l : ℕ) (z : UnitState) → busy_at l z ≡ true → in_input l (opened z) ≡ true
busy_open l Idle h = h
busy_open l (Busy x due) h = h
busy_open l (Done x) h = absurd (both_ways false refl h)

-- a unit's relation holds on where memory changes outside the areas of its transfer
pub unit_frame : (u : ℕ) (z : UnitState) (h : Option Holding) (l : Life) (tm tn em en : Memory)
    → ((i : ℕ) → in_output i (opened z) ≡ true → tn i ≡ tm i)
    → ((i : ℕ) → in_input i (opened z) ≡ true → em i ≡ en i)
    → UnitRel u z h l tm em → UnitRel u z h l tn en
unit_frame u Idle h l tm tn em en f g r = r
unit_frame u (Done x) h l tm tn em en f g r = r
unit_frame u (Busy x due) h l tm tn em en f g r =
    subst (λ ws. Pending x l en (perform (unit_at u) x.transfer ws h)) (sym (given_same x tn tm f)) (go (perform (unit_at u) x.transfer (given x tm) h) r)
  where
    go : (a : Answer) → Pending x l em a → Pending x l en a
    go (Ok e) q = (q.0, λ i c. q.1 i c ∙ g i c)
    go (Err e) q = q

module _ (c : Core) (e : Eager) (r : Rel c e) (u : ℕ) (x : Flight) (due : ℕ) (is : c.states u ≡ Busy x due) where
  pending : Pending x (e.units u) e.memory (perform (unit_at u) x.transfer (given x c.memory) (c.units u))
  pending = subst (λ z. UnitRel u z (c.units u) (e.units u) c.memory e.memory) is (r.unit u)

  open_of : (v : ℕ) → opened (c.states v) ≡ e.opens v
  open_of v = ap (λ o. o v) r.opened

  open_here : e.opens u ≡ Some x
  open_here = sym (open_of u) ∙ ap opened is

  carry_memory : (y : Effect) → Pending x (e.units u) e.memory (Ok y) → (l : ℕ) → Quiet (with_state c.states u (Done x)) l → delivered x y.block c.memory l ≡ e.memory l
  unfolding with_state
  carry_memory y q l quiet = go (in_input l (Some x)) refl
    where
      other : in_input l (Some x) ≡ false → (v : ℕ) → (v ≡ u) ⊎ (v ≡ u → ⊥) → busy_at l (c.states v) ≡ false
      other h v (inl i) = ap (busy_at l) (ap c.states i ∙ is) ∙ h
      other h v (inr n) = ap (busy_at l) (sym (at_other c.states u (Done x) v n)) ∙ quiet v

      go : (b : Bool) → in_input l (Some x) ≡ b → delivered x y.block c.memory l ≡ e.memory l
      go true h = delivered_in x y.block c.memory l h ∙ q.1 l h
      go false h = delivered_out x y.block c.memory l h ∙ r.memory l (λ v. other h v (cases_eq v u))

  -- what comes into the area leaves those of the OUTs
  carry_apart : (v l : ℕ) → in_output l (opened (c.states v)) ≡ true → in_input l (Some x) ≡ false
  carry_apart v l h = false_from_ne_true (in_input l (Some x)) (λ b.
      r.apart u v l (ap (in_input l) open_here ∙ b) (ap (in_output l) (sym (open_of v)) ∙ h))

  carry_unit : (y : Effect) → Pending x (e.units u) e.memory (Ok y) → (v : ℕ)
      → UnitRel v (with_state c.states u (Done x) v) (updated c.units u (Some y.holding) v) (e.units v) (delivered x y.block c.memory) e.memory
  unfolding with_state updated
  carry_unit y q = both_at (λ v z h. UnitRel v z h (e.units v) (delivered x y.block c.memory) e.memory) c.states c.units u (Done x) (Some y.holding)
      q.0
      (λ v n. unit_frame v (c.states v) (c.units v) (e.units v) c.memory (delivered x y.block c.memory) e.memory e.memory
      (λ l h. delivered_out x y.block c.memory l (carry_apart v l h)) (λ l h. refl) (r.unit v))

  carry_opened : (λ v. opened (with_state c.states u (Done x) v)) ≡ e.opens
  unfolding with_state
  carry_opened = fun_ext (all_at (λ v z. opened z ≡ e.opens v) c.states u (Done x) (sym open_here) (λ v n. open_of v))

  carry_low : (v : ℕ) → Low v (with_state c.states u (Done x) v)
  unfolding with_state
  carry_low = all_at Low c.states u (Done x) (subst (Low u) is (r.low u)) (λ v n. r.low v)

  -- an accepted transfer keeps the relation
  pub carry_rel : (y : Effect) → perform (unit_at u) x.transfer (given x c.memory) (c.units u) ≡ Ok y → Rel (landed c u x y) e
  carry_rel y ok =
      let q : Pending x (e.units u) e.memory (Ok y) = subst (Pending x (e.units u) e.memory) ok pending in
      record { registers = r.registers; memory = carry_memory y q; unit = carry_unit y q; opened = carry_opened; low = carry_low; apart = r.apart }

-- some unit of the untimed machine is dead
abbrev pub Dead : Eager → Type 0
Dead e = (u : ℕ) × (u < units) × (e.units u ≡ dead)

abbrev pub Fate : Eager → Drained → Type 0
Fate e (clear c) = Rel c e
Fate e (broke c due f) = Dead e

fate_on : (c : Core) (e : Eager) (by : ℕ) (k : Core → Drained) → ((d : Core) → Rel d e → Fate e (k d)) → Rel c e → (b : Next) → Found units by c.states b → Fate e (on_due c k b)
fate_on c e by k rest r nothing f = r
fate_on c e by k rest r (flies u x due) f = go (perform (unit_at u) x.transfer (given x c.memory) (c.units u)) refl
  where
    go : (a : Answer) → perform (unit_at u) x.transfer (given x c.memory) (c.units u) ≡ a → Fate e (on_carry c due k (carried c u x a))
    go (Ok y) h = rest _ (carry_rel c e r u x due f.1 y h)
    go (Err g) h = (u, f.0, subst (Pending x (e.units u) e.memory) h (pending c e r u x due f.1))

-- what is carried out, in any order, keeps the relation, or a unit is dead
pub drain_rel : (n by : ℕ) (c : Core) (e : Eager) → Rel c e → Fate e (drain n by c)
unfolding drain
drain_rel zero by c e r = r
drain_rel (suc n) by c e r = fate_on c e by (drain n by) (λ d q. drain_rel n by d e q) r (first_due units by c.states) (found units by c.states)
