-- Which codes there are, and which take any F.
use Rattle.std.proofs.Common.{◌≡◌, ℕ, zero, suc, ◌<◌, ◌≤◌, Bool, true, ◌&&◌, ◌%◌, None, refl, arith, rules, tests}
use Rattle.std.proofs.lemmas.Bool.Decides.{Decides-below_and}
use Rattle.std.specs.Option.{is_some}
use Rattle.cpu.specs.declared.operation.Operation.TheVariants.{Load, LoadNegative, Store, Compare}
use Rattle.cpu.specs.Decoding.{adjustment_at, decoded, register_at, test_at, with_field}
use Rattle.cpu.specs.Laws.{takes_any}

-- each C below n takes the F 2
abbrev coded : ℕ → Bool
coded zero = true
coded (suc n) = is_some (decoded n 2) && coded n

all_coded : coded 64 ≡ true
unfolding decoded
all_coded = refl

takes_two : (c : ℕ) → c < 64 → is_some (decoded c 2) ≡ true
takes_two = (Decides-below_and (λ c. is_some (decoded c 2)) (λ c. is_some (decoded c 2) ≡ true) coded (λ c. (λ e. e, λ e. e)) refl (λ _. refl) 64).0 all_coded

pub takes_some : (c : ℕ) → c < 64 → (f : ℕ) × (f < 64) × (is_some (decoded c f) ≡ true)
takes_some c h = (2, omega arith, takes_two c h)

pub takes_all : (c f : ℕ) → takes_any c ≡ true → is_some (decoded c f) ≡ true
unfolding decoded
takes_all c f h = search (rules, tests)

pub takes_none : (c f : ℕ) → 64 ≤ c → decoded c f ≡ None
unfolding decoded
takes_none c f h = search (rules, tests)

-- the codes of one operation on each register

pub in_loads : (c f : ℕ) → 8 ≤ c → c ≤ 15 → decoded c f ≡ with_field f (Load (register_at (c % 8)))
unfolding decoded
in_loads c f low high = search (rules, tests)

pub in_negative_loads : (c f : ℕ) → 16 ≤ c → c ≤ 23 → decoded c f ≡ with_field f (LoadNegative (register_at (c % 8)))
unfolding decoded
in_negative_loads c f low high = search (rules, tests)

pub in_stores : (c f : ℕ) → 24 ≤ c → c ≤ 31 → decoded c f ≡ with_field f (Store (register_at (c % 8)))
unfolding decoded
in_stores c f low high = search (rules, tests)

pub in_tests : (c f : ℕ) → 40 ≤ c → c ≤ 47 → decoded c f ≡ test_at (register_at (c % 8)) f
unfolding decoded
in_tests c f low high = search (rules, tests)

pub in_adjustments : (c f : ℕ) → 48 ≤ c → c ≤ 55 → decoded c f ≡ adjustment_at (register_at (c % 8)) f
unfolding decoded
in_adjustments c f low high = search (rules, tests)

pub in_comparisons : (c f : ℕ) → 56 ≤ c → c ≤ 63 → decoded c f ≡ with_field f (Compare (register_at (c % 8)))
unfolding decoded
in_comparisons c f low high = search (rules, tests)
