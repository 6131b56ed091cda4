-- What two racks side by side hold.
use Rattle.std.specs.Prelude.{ℕ, true, false, cond, nat_lt}

-- below a number what the left one has, and from it on what the right one has
unfoldable pub side_by_side : {X : Type 0} → ℕ → (ℕ → X) → (ℕ → X) → ℕ → X
side_by_side split left right u = cond (nat_lt u split) (left u) (right u)

-- what holds on both sides holds of both
pub on_both : {X : Type 0} (P : X → Type 0) (split u : ℕ) (left right : ℕ → X) → P (left u) → P (right u) → P (side_by_side split left right u)
unfolding side_by_side
on_both P split u left right p q = elim (nat_lt u split) as (λ b. P (cond b (left u) (right u))) [ true ↦ p | false ↦ q ]
