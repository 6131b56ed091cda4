-- The rules of the times.
use Rattle.std.proofs.Common.{◌≡◌, ℕ, zero, suc, ◌+◌, ◌*◌, ◌<◌, ◌≤◌, Bool, true, cond, ◌&&◌, eqb, leb, sym, refl, ap, ◌∙◌, arith}
use Rattle.std.proofs.lemmas.List.{get_or_past}
use Rattle.std.proofs.lemmas.Bool.{cond-false, ne_eqb, le-leb, leb-true}
use Rattle.std.proofs.lemmas.Bool.Decides.{Decides-below_and}
use Rattle.names.specs.Times.{times, base_time, time_of, TimeLaws}

move_is : (n : ℕ) → time_of 7 n ≡ 1 + 2 * n
unfolding times
move_is n = refl

-- the codes below n take some time
abbrev busy : ℕ → Bool
busy zero = true
busy (suc n) = leb 1 (base_time n) && busy n

all_busy : busy 64 ≡ true
unfolding times
all_busy = refl

takes : (k : ℕ) → k < 64 → 1 ≤ base_time k
takes = (Decides-below_and (λ k. leb 1 (base_time k)) (λ k. 1 ≤ base_time k) busy (λ k. (leb-true 1 (base_time k), le-leb 1 (base_time k))) refl (λ _. refl) 64).0 all_busy

pub past : (k : ℕ) → 64 ≤ k → base_time k ≡ 0
unfolding times
past k h = get_or_past times k 0 h

none_is : (k n : ℕ) → 64 ≤ k → time_of k n ≡ 0
none_is k n h =
    let e = past k h in
    let f : cond (eqb k 7) (2 * n) 0 ≡ 0 = cond-false (eqb k 7) (2 * n) 0 (ne_eqb k 7 (λ g. omega arith)) in
    omega arith

by_code_is : (k m n : ℕ) → (k ≡ 7 → ⊥) → time_of k m ≡ time_of k n
by_code_is k m n h =
    ap (λ (b : Bool). base_time k + cond b (2 * m) 0) (ne_eqb k 7 h) ∙ sym (ap (λ (b : Bool). base_time k + cond b (2 * n) 0) (ne_eqb k 7 h))

pub time_laws : TimeLaws
time_laws =
    record {
      move = move_is;
      by_code = by_code_is;
      some = λ k n h. omega (arith, takes k h);
      none = none_is;
    }
