-- One byte further in a number.
use Rattle.std.proofs.Common.{◌≡◌, ℕ, ◌+◌, ◌-◌, ◌*◌, ◌^◌, ◌<◌, ◌≤◌, ◌&&◌, List, length, get_or, drop, arith}
use Rattle.std.proofs.lemmas.Nat.{pow-add}
use Rattle.std.proofs.lemmas.List.{at_drop_more}
use Rattle.scan.specs.Symbols.{is_digit}
use Rattle.scan.specs.Atoms.{all_digits, digits_from}

pub digits_at : (xs : List ℕ) (i : ℕ) → i < length xs → all_digits (drop i xs) ≡ (is_digit (get_or xs i 0) && all_digits (drop (i + 1) xs))
digits_at xs i h = at_drop_more all_digits xs i 0 h

pub value_at : (a : ℕ) (xs : List ℕ) (i : ℕ) → i < length xs → digits_from a (drop i xs) ≡ digits_from (10 * a + (get_or xs i 0 - 48)) (drop (i + 1) xs)
value_at a xs i h = at_drop_more (digits_from a) xs i 0 h

pub value_bound : (i a d : ℕ) → a < 10 ^ i → d ≤ 9 → 10 * a + d < 10 ^ (i + 1)
value_bound i a d h k = let e = pow-add 10 i 1 in omega arith
