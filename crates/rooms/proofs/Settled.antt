-- J in the two machines: where it may differ, it is not taken unmarked.
use Rattle.std.proofs.Common.{◌≡◌, ℕ, Bool, true, false, not, ◌&&◌, ◌⊎◌, inl, inr, Option, Some, None, refl, sym, ap, ◌∙◌}
use Rattle.std.proofs.lemmas.Bool.{both_ways, and_right}
use Rattle.cpu.specs.Programs.{Memory, Program, stored, outcome_of, takes_j}
use Rattle.cpu.specs.Programs.Program.{read, write, save, done}
use Rattle.machine.specs.Steps.{j_after, j_word}
use Rattle.flights.specs.Watch.{Open}
use Rattle.machine.specs.declared.j.J.{J}
use Rattle.rooms.proofs.Relation.{Level, Ahead, Linked}

pub level_only : {A B : Type 0} → A ⊎ (B × ⊥) → A
level_only (inl h) = h
level_only (inr h) = absurd h.1

pub level_after : (a b : J) (l : Option ℕ) → Level a b → Level (j_after a l) (j_after b l)
level_after a b None h = h
level_after a b (Some l) h = record { settled = refl; location = λ i. refl }

and_off : (a b : Bool) → (not a && b) ≡ false → b ≡ true → a ≡ true
and_off true b h i = refl
and_off false b h i = absurd (both_ways b h i)

module _ (o : Open) (a b : J) where
  -- a program that waits takes no J
  ahead_takes : (p : Program) (m : Memory) → Ahead o (outcome_of p m) → takes_j p m ≡ false
  ahead_takes (read k f) m h = ahead_takes (f (m k)) m h
  ahead_takes (write k w p) m h = ahead_takes p (stored m k w) h
  ahead_takes (save k f t w) m h = absurd h
  ahead_takes (done z) m h = refl

  -- J is taken, and marked, in both machines or in none; where it is taken unmarked it is the same
  pub one_take : (p : Program) (m n : Memory) → takes_j p m ≡ takes_j p n → Linked a b o (outcome_of p n)
      → ((not a.settled && takes_j p m) ≡ (not b.settled && takes_j p n))
      × ((not a.settled && takes_j p m) ≡ false → takes_j p m ≡ true → j_word a ≡ j_word b)
  one_take p m n i (inl l) = (
    ap (λ s. not s && takes_j p m) l.settled ∙ ap (λ t. not b.settled && t) i,
    λ j k. ap (λ l. j_word (record { location = l; settled = true })) (l.location (and_off a.settled (takes_j p m) j k)),
  )
  one_take p m n i (inr l) =
      let e = ahead_takes p n l.1 in (
        and_right (not a.settled) (takes_j p m) (i ∙ e) ∙ sym (and_right (not b.settled) (takes_j p n) e),
        λ j k. absurd (both_ways (takes_j p m) (i ∙ e) k),
      )
