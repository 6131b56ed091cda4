-- Lists of bytes and the numbers that they write.
use Rattle.std.proofs.Common.{◌≡◌, ℕ, zero, suc, ◌+◌, ◌-◌, ◌*◌, ◌/◌, ◌%◌, ◌^◌, ◌<◌, ◌≤◌, true, ltb, List, [], ◌∷◌, ◌++◌, length, get_or, take, drop, replicate, sym, refl, ap, ◌∙◌, mul_assoc, add-mul, pow-suc, arith, length-append, length-drop}
use native.Mathlib.Nat.{one-le-pow, pow-le-pow_right, mod-one, div-div-eq-div-mul}
use lib.Arith.{digits_lt, digits_div, digits_mod, mod-mul}
use lib.ListN.{length-replicate}
use Rattle.std.proofs.lemmas.Nat.{pow-add, mod_below}
use Rattle.std.proofs.lemmas.List.{take-append-drop, append-nil}
use Rattle.std.proofs.lemmas.List.Folds.{list_all-append}
use Rattle.std.proofs.lemmas.Bool.{and_parts, and_from, ltb-true, lt-ltb}
use Rattle.word.specs.Bytes.{packed, unpacked, are_bytes}

pub pow_pos : (n : ℕ) → 0 < 64 ^ n
pow_pos n = one-le-pow n 64 (omega arith)

-- up to ten bytes fit in 64 bits
pub pow_fits : (n : ℕ) → n ≤ 10 → 64 ^ n < 2 ^ 64
pow_fits n h = let p = pow-le-pow_right {n = 64} (omega arith) h in omega arith

-- a power of 64 as one of 2
pub pow_bits : (n : ℕ) → 2 ^ (6 * n) ≡ 64 ^ n
pow_bits zero = refl
pow_bits (suc n) =
    let e : 6 * suc n ≡ 6 + 6 * n = omega arith in
    rw (e, pow-add 2 6 (6 * n), pow_bits n) (omega (arith, pow-suc 64 n))

pub length_unpacked : (n m : ℕ) → length (unpacked n m) ≡ n
unfolding unpacked
length_unpacked zero m = refl
length_unpacked (suc n) m = ap suc (length_unpacked n m)

-- which lists are bytes

pub bytes_unpacked : (n m : ℕ) → are_bytes (unpacked n m) ≡ true
unfolding unpacked
bytes_unpacked zero m = refl
bytes_unpacked (suc n) m = and_from _ _ (lt-ltb _ 64 (mod_below (m / 64 ^ n) 64 (omega arith))) (bytes_unpacked n m)

pub bytes_append : (xs ys : List ℕ) → are_bytes xs ≡ true → are_bytes ys ≡ true → are_bytes (xs ++ ys) ≡ true
bytes_append xs ys p q = list_all-append (λ b. ltb b 64) xs ys ∙ and_from _ _ p q

-- both parts of a list of bytes are
bytes_parts : (n : ℕ) (xs : List ℕ) → are_bytes xs ≡ true → (are_bytes (take n xs) ≡ true) × (are_bytes (drop n xs) ≡ true)
bytes_parts n xs p = and_parts _ _ (sym (list_all-append (λ b. ltb b 64) (take n xs) (drop n xs)) ∙ ap are_bytes (take-append-drop n xs) ∙ p)

pub bytes_take : (n : ℕ) (xs : List ℕ) → are_bytes xs ≡ true → are_bytes (take n xs) ≡ true
bytes_take n xs p = (bytes_parts n xs p).0

pub bytes_drop : (n : ℕ) (xs : List ℕ) → are_bytes xs ≡ true → are_bytes (drop n xs) ≡ true
bytes_drop n xs p = (bytes_parts n xs p).1

pub bytes_zeros : (n : ℕ) → are_bytes (replicate n 0) ≡ true
bytes_zeros zero = refl
bytes_zeros (suc n) = bytes_zeros n

-- the number of a list in two parts

pub packed_append : (xs ys : List ℕ) → packed (xs ++ ys) ≡ packed xs * 64 ^ length ys + packed ys
packed_append [] ys = omega arith
packed_append (x ∷ xs) ys =
    let e = packed_append xs ys in
    let p : 64 ^ length (xs ++ ys) ≡ 64 ^ length xs * 64 ^ length ys = ap (λ n. 64 ^ n) (length-append xs ys) ∙ pow-add 64 (length xs) (length ys) in
    let d = add-mul (x * 64 ^ length xs) (packed xs) (64 ^ length ys) in
    rw (p, ← mul_assoc) (omega arith)

pub packed_zeros : (n : ℕ) (xs : List ℕ) → packed (replicate n 0 ++ xs) ≡ packed xs
packed_zeros zero xs = refl
packed_zeros (suc n) xs = let e = packed_zeros n xs in omega arith

pub packed_filled : (n : ℕ) (xs : List ℕ) → packed (xs ++ replicate n 0) ≡ packed xs * 64 ^ n
packed_filled n xs =
    let z : packed (replicate n 0) ≡ 0 = ap packed (sym (append-nil (replicate n 0))) ∙ packed_zeros n [] in
    packed_append xs (replicate n 0) ∙ simp (length-replicate, z) (omega arith)

-- a list of bytes stays below the next power
pub packed_lt : (bs : List ℕ) → are_bytes bs ≡ true → packed bs < 64 ^ length bs
packed_lt [] p = omega arith
packed_lt (b ∷ bs) p =
    let h = and_parts (ltb b 64) (are_bytes bs) p in
    let d = digits_lt {q = b} {m = 64} {r = packed bs} {c = 64 ^ length bs} (ltb-true b 64 h.0) (packed_lt bs h.1) in
    let e = pow-suc 64 (length bs) in
    omega arith

-- the number of a list of bytes, cut behind the n-th
record Cut (n : ℕ) (xs : List ℕ) : Type 0 where
  whole : packed (take n xs) * 64 ^ (length xs - n) + packed (drop n xs) ≡ packed xs
  below : packed (drop n xs) < 64 ^ (length xs - n)

cut : (n : ℕ) (xs : List ℕ) → are_bytes xs ≡ true → Cut n xs
cut n xs p =
    record {
      whole = rw (← length-drop n xs) (sym (packed_append (take n xs) (drop n xs)) ∙ ap packed (take-append-drop n xs));
      below = rw (← length-drop n xs) (packed_lt (drop n xs) (bytes_drop n xs p));
    }

-- the front of a list is a quotient, and its end a remainder

pub packed_take : (n : ℕ) (xs : List ℕ) → are_bytes xs ≡ true → packed (take n xs) ≡ packed xs / 64 ^ (length xs - n)
packed_take n xs p = let c = cut n xs p in let e = digits_div (packed (take n xs)) c.below in cc

pub packed_drop : (n : ℕ) (xs : List ℕ) → are_bytes xs ≡ true → packed (drop n xs) ≡ packed xs % 64 ^ (length xs - n)
packed_drop n xs p = let c = cut n xs p in let e = digits_mod (packed (take n xs)) c.below in cc

-- to bytes and back, both ways

pub packed_unpacked : (n m : ℕ) → packed (unpacked n m) ≡ m % 64 ^ n
unfolding unpacked
packed_unpacked zero m = sym (mod-one m)
packed_unpacked (suc n) m =
    let l = length_unpacked n m in
    let p = packed_unpacked n m in
    let d = mod-mul m {m = 64} {c = 64 ^ n} (omega arith) (pow_pos n) in
    let w : 64 ^ suc n ≡ 64 * 64 ^ n = omega (arith, pow-suc 64 n) in
    cc

-- the bytes of a number that goes on above them
under : (q : ℕ) (bs : List ℕ) → are_bytes bs ≡ true → unpacked (length bs) (q * 64 ^ length bs + packed bs) ≡ bs
unfolding unpacked
under q [] p = refl
under q (b ∷ bs) p =
    let h = and_parts (ltb b 64) (are_bytes bs) p in
    let w = 64 ^ length bs in
    let e : q * 64 ^ suc (length bs) + (b * w + packed bs) ≡ (q * 64 + b) * w + packed bs = simp (pow-suc, add-mul) (omega (arith, mul_assoc q 64 w)) in
    let d = digits_div (q * 64 + b) (packed_lt bs h.1) in
    let m = digits_mod q (ltb-true b 64 h.0) in
    let u = under (q * 64 + b) bs h.1 in
    rw e cc

pub unpacked_packed : (bs : List ℕ) → are_bytes bs ≡ true → unpacked (length bs) (packed bs) ≡ bs
unpacked_packed bs p = ap (unpacked (length bs)) (omega arith) ∙ under 0 bs p

-- a list of bytes is the bytes of its number
pub unpacked_at : (n : ℕ) (bs : List ℕ) → length bs ≡ n → are_bytes bs ≡ true → unpacked n (packed bs) ≡ bs
unpacked_at n bs e p = let u = unpacked_packed bs p in cc

-- the bytes above the n-th do not count
pub unpacked_rest : (n m : ℕ) → unpacked n (m % 64 ^ n) ≡ unpacked n m
unpacked_rest n m = rw (← packed_unpacked n m) (unpacked_at n (unpacked n m) (length_unpacked n m) (bytes_unpacked n m))

-- the bytes of a number in two parts
pub unpacked_split : (j k m : ℕ) → unpacked (j + k) m ≡ unpacked j (m / 64 ^ k) ++ unpacked k m
unfolding unpacked
unpacked_split zero k m = ap (λ (n : ℕ). unpacked n m) (omega arith)
unpacked_split (suc j) k m =
    let e : suc j + k ≡ suc (j + k) = omega arith in
    let p : 64 ^ (j + k) ≡ 64 ^ k * 64 ^ j = ap (λ (n : ℕ). 64 ^ n) (omega arith) ∙ pow-add 64 k j in
    let d = div-div-eq-div-mul m (64 ^ k) (64 ^ j) in
    rw (e, unpacked_split j k m) cc

-- the number of five bytes, written out
pub packed_by_five : (bs : List ℕ) → length bs ≡ 5 → packed bs ≡ get_or bs 0 0 * 16777216 + get_or bs 1 0 * 262144 + get_or bs 2 0 * 4096 + get_or bs 3 0 * 64 + get_or bs 4 0
packed_by_five [] h = absurd (omega arith)
packed_by_five (a ∷ []) h = absurd (omega arith)
packed_by_five (a ∷ b ∷ []) h = absurd (omega arith)
packed_by_five (a ∷ b ∷ c ∷ []) h = absurd (omega arith)
packed_by_five (a ∷ b ∷ c ∷ d ∷ []) h = absurd (omega arith)
packed_by_five (a ∷ b ∷ c ∷ d ∷ e ∷ []) h = omega arith
packed_by_five (a ∷ b ∷ c ∷ d ∷ e ∷ f ∷ bs) h = absurd (omega arith)
