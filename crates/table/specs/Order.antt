-- What a table takes of the order of its keys.
use Rattle.std.specs.Prelude.{◌≡◌, Bool, true, false}
use Rattle.std.specs.Cmp.{IsTotalOrder}
use Rattle.std.specs.Ordering.{is_lt, eq_by_cmp}
use Rattle.std.specs.declared.cmp.Ordering.TheVariants.{Less, Equal, Greater}
use Rattle.std.specs.declared.cmp.Ordering.{Ordering}

-- the first key comes before the second
abbrev pub before_by : {K : Type 0} → (K → K → Ordering) → K → K → Bool
before_by cmp a b = is_lt (cmp a b)

-- an order on keys, and the test of the keys that it does not tell apart
pub record Order {K : Type 0} (cmp : K → K → Ordering) (same : K → K → Bool) : Type 0 where
  pub total : IsTotalOrder cmp
  pub ties : (a b : K) → same a b ≡ eq_by_cmp cmp a b

-- of three tests just one holds
abbrev pub JustOne : Bool → Bool → Bool → Type 0
JustOne true true a = ⊥
JustOne true false true = ⊥
JustOne true false false = Unit {0}
JustOne false true true = ⊥
JustOne false true false = Unit {0}
JustOne false false true = Unit {0}
JustOne false false false = ⊥

-- an answer names the test that holds
abbrev pub Tells : Ordering → Bool → Bool → Bool → Type 0
Tells Less b s a = b ≡ true
Tells Equal b s a = s ≡ true
Tells Greater b s a = a ≡ true
