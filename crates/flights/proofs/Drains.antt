-- Carrying out transfers, one at a time: what is found next, and what is left.
use Rattle.std.proofs.Common.{◌≡◌, ℕ, zero, suc, ◌+◌, ◌-◌, ◌<◌, ◌≤◌, true, cond, Ok, Err, sym, refl, ap, subst, ◌∙◌, arith, add-one, leb-true}
use Rattle.std.proofs.lemmas.Bool.{lt-leb}
use Rattle.flights.specs.Flights.{Core, States, carry, drain, first_due, on_carry, on_due, sooner, units}
use Rattle.flights.specs.Flights.Drained.{clear, broke}
use Rattle.flights.specs.Flights.Next.{nothing, flies}
use Rattle.flights.specs.Kept.{due_from}
use Rattle.flights.specs.declared.fault.Fault.{Fault}
use Rattle.flights.specs.declared.flight.Flight.{Flight}
use Rattle.flights.specs.declared.flight.UnitState.{UnitState}
use Rattle.flights.specs.declared.flight.UnitState.TheVariants.{Idle, Busy, Done}
use Rattle.flights.proofs.Dues.{Found, found}

pub due_none : (by : ℕ) (s : States) → nothing ≡ first_due 0 by s
unfolding first_due
due_none by s = refl

pub due_more : (n by : ℕ) (s : States) → first_due (n + 1) by s ≡ sooner by (first_due n by s) n (s n)
unfolding first_due
due_more n by s = rw add-one

-- one turn of the loop that drains
module _ (i by : ℕ) (l : i < units) (c : Core) where
  more : drain (units - i) by c ≡ on_due c (drain (units - (i + 1)) by) (first_due units by c.states)
  unfolding drain
  more = let e : units - i ≡ suc (units - (i + 1)) = omega arith in rw e

  pub drain_none : nothing ≡ first_due units by c.states → drain (units - i) by c ≡ clear c
  drain_none h = more ∙ ap (on_due c (drain (units - (i + 1)) by)) (sym h)

  module _ (u : ℕ) (x : Flight) (t : ℕ) (h : flies u x t ≡ first_due units by c.states) where
    pub drain_next : (d : Core) → carry c u x ≡ Ok d → drain (units - i) by c ≡ drain (units - (i + 1)) by d
    drain_next d k = more ∙ ap (on_due c (drain (units - (i + 1)) by)) (sym h) ∙ ap (on_carry c t (drain (units - (i + 1)) by)) k

    pub drain_broke : (f : Fault) → carry c u x ≡ Err f → drain (units - i) by c ≡ broke c t f
    drain_broke f k = more ∙ ap (on_due c (drain (units - (i + 1)) by)) (sym h) ∙ ap (on_carry c t (drain (units - (i + 1)) by)) k

pub drain_end : (i by : ℕ) → units ≤ i → (c : Core) → drain (units - i) by c ≡ clear c
unfolding drain
drain_end i by l c = let e : units - i ≡ 0 = omega arith in rw e

-- what goes next is a busy unit's
module _ (by : ℕ) (s : States) (u : ℕ) (x : Flight) (t : ℕ) (h : flies u x t ≡ first_due units by s) where
  pub next_found : (u < units) × (s u ≡ Busy x t) × (t ≤ by)
  next_found = let f : Found units by s (flies u x t) = subst (Found units by s) (sym h) (found units by s) in f

-- nothing goes where all are due from a later time on
pub none_due : (n by e : ℕ) (s : States) → by < e → ((u : ℕ) → due_from e (s u) ≡ true) → nothing ≡ first_due n by s
unfolding first_due
none_due zero by e s l h = refl
none_due (suc n) by e s l h = go (s n) (h n) ∙ ap (λ b. sooner by b n (s n)) (none_due n by e s l h)
  where
    go : (z : UnitState) → due_from e z ≡ true → nothing ≡ sooner by nothing n z
    go Idle w = refl
    go (Done x) w = refl
    go (Busy x t) w = let k = leb-true e t w in sym (ap (λ b. cond b (flies n x t) nothing) (lt-leb t by (omega arith)))
