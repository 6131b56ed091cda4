-- The numbers of shifted bytes, as the code works them out.
use Rattle.std.proofs.Common.{◌≡◌, ℕ, ◌+◌, ◌-◌, ◌*◌, ◌/◌, ◌%◌, ◌^◌, ◌<◌, ◌≤◌, min, true, List, length, take, drop, replicate, sym, ◌∙◌, mod-eq_of_lt, arith, length-append, length-drop, length-take}
use native.Mathlib.Nat.{pow-le-pow_right}
use lib.ListN.{length-replicate}
use Rattle.std.proofs.lemmas.Nat.{div_below, mod_below, mul-add-lt, pow-add}
use Rattle.std.proofs.lemmas.List.{take_at, drop_at, take-append-drop}
use Rattle.word.specs.Bytes.{packed, unpacked, are_bytes}
use Rattle.word.proofs.Bytes.{length_unpacked, bytes_unpacked, packed_unpacked, bytes_append, bytes_take, bytes_drop, bytes_zeros, packed_zeros, packed_filled, packed_append, packed_take, packed_drop, pow_pos, unpacked_at}
use Rattle.arith.specs.Shifts.{shifted_left, shifted_right, turned}

-- a list that is moved has its length and is bytes still

left_length : (n : ℕ) (bs : List ℕ) → length (shifted_left n bs) ≡ length bs
unfolding shifted_left
left_length n bs = simp (length-append, length-drop, length-replicate) (omega arith)

left_bytes : (n : ℕ) (bs : List ℕ) → are_bytes bs ≡ true → are_bytes (shifted_left n bs) ≡ true
unfolding shifted_left
left_bytes n bs p = bytes_append (drop n bs) (replicate (min n (length bs)) 0) (bytes_drop n bs p) (bytes_zeros (min n (length bs)))

right_length : (n : ℕ) (bs : List ℕ) → length (shifted_right n bs) ≡ length bs
unfolding shifted_right
right_length n bs = simp (length-append, length-take, length-replicate) (omega arith)

right_bytes : (n : ℕ) (bs : List ℕ) → are_bytes bs ≡ true → are_bytes (shifted_right n bs) ≡ true
unfolding shifted_right
right_bytes n bs p = bytes_append (replicate (min n (length bs)) 0) (take (length bs - n) bs) (bytes_zeros (min n (length bs))) (bytes_take (length bs - n) bs p)

turned_length : (k : ℕ) (bs : List ℕ) → length (turned k bs) ≡ length bs
unfolding turned
turned_length k bs = simp (length-append, length-take, length-drop) (omega arith)

turned_bytes : (k : ℕ) (bs : List ℕ) → are_bytes bs ≡ true → are_bytes (turned k bs) ≡ true
unfolding turned
turned_bytes k bs p = bytes_append (drop k bs) (take k bs) (bytes_drop k bs p) (bytes_take k bs p)

-- their numbers

module _ (size number : ℕ) (small : number < 64 ^ size) where
  whole : packed (unpacked size number) ≡ number
  whole = packed_unpacked size number ∙ mod-eq_of_lt small

  front : (n : ℕ) → packed (take n (unpacked size number)) ≡ number / 64 ^ (size - n)
  front n = cc (packed_take n (unpacked size number) (bytes_unpacked size number), length_unpacked size number, whole)

  end : (n : ℕ) → packed (drop n (unpacked size number)) ≡ number % 64 ^ (size - n)
  end n = cc (packed_drop n (unpacked size number) (bytes_unpacked size number), length_unpacked size number, whole)

  pub left_number : (n : ℕ) → packed (shifted_left n (unpacked size number)) ≡ number % 64 ^ (size - min n size) * 64 ^ min n size
  unfolding shifted_left
  left_number n =
      let e : size - n ≡ size - min n size = omega arith in
      cc (packed_filled (min n (length (unpacked size number))) (drop n (unpacked size number)), end n, length_unpacked size number)

  pub right_number : (n : ℕ) → packed (shifted_right n (unpacked size number)) ≡ number / 64 ^ min n size
  unfolding shifted_right
  right_number n =
      let e : size - (size - n) ≡ min n size = omega arith in
      cc (packed_zeros (min n (length (unpacked size number))) (take (length (unpacked size number) - n) (unpacked size number)), front (size - n), length_unpacked size number)

  pub turned_number : (k : ℕ) → k ≤ size → packed (turned k (unpacked size number)) ≡ number % 64 ^ (size - k) * 64 ^ k + number / 64 ^ (size - k)
  unfolding turned
  turned_number k h =
      let e : length (take k (unpacked size number)) ≡ k = simp (length-take, length_unpacked) (omega arith) in
      cc (packed_append (drop k (unpacked size number)) (take k (unpacked size number)), end k, front k)

-- a list moved is the bytes of its number

module _ (size number : ℕ) where
  pub again : (bs : List ℕ) → length bs ≡ length (unpacked size number) → are_bytes bs ≡ true → bs ≡ unpacked size (packed bs)
  again bs e p = sym (unpacked_at size bs (e ∙ length_unpacked size number) p)

  pub left_again : (n : ℕ) → shifted_left n (unpacked size number) ≡ unpacked size (packed (shifted_left n (unpacked size number)))
  left_again n = again _ (left_length n (unpacked size number)) (left_bytes n (unpacked size number) (bytes_unpacked size number))

  pub right_again : (n : ℕ) → shifted_right n (unpacked size number) ≡ unpacked size (packed (shifted_right n (unpacked size number)))
  right_again n = again _ (right_length n (unpacked size number)) (right_bytes n (unpacked size number) (bytes_unpacked size number))

  pub turned_again : (k : ℕ) → turned k (unpacked size number) ≡ unpacked size (packed (turned k (unpacked size number)))
  turned_again k = again _ (turned_length k (unpacked size number)) (turned_bytes k (unpacked size number) (bytes_unpacked size number))

-- turned on by the rest of its length, a list is as it was
turned_back : (j k : ℕ) (bs : List ℕ) → j + k ≡ length bs → turned j (turned k bs) ≡ bs
unfolding turned
turned_back j k bs e =
    let n : length (drop k bs) ≡ j = simp length-drop (omega arith) in
    cc (drop_at (drop k bs) (take k bs) j n, take_at (drop k bs) (take k bs) j n, take-append-drop k bs)

-- ten bytes turned by two counts that make ten are as they were
pub turned_twice : (j k number : ℕ) → j + k ≡ 10 → turned j (turned k (unpacked 10 number)) ≡ unpacked 10 number
turned_twice j k number e = turned_back j k (unpacked 10 number) (e ∙ sym (length_unpacked 10 number))

-- the numbers worked out fit ten bytes

pub left_fits : (n a k : ℕ) → a + k ≤ 10 → n % 64 ^ a * 64 ^ k < 64 ^ 10
left_fits n a k h =
    let s = mul-add-lt (n % 64 ^ a) (64 ^ k) 0 (64 ^ a) (mod_below n (64 ^ a) (pow_pos a)) (pow_pos k) in
    let p = pow-le-pow_right {n = 64} (omega arith) {i = k + a} {j = 10} (omega arith) in
    omega (arith, pow-add 64 k a)

pub turned_fits : (n a k : ℕ) → k + a ≡ 10 → n < 64 ^ 10 → n % 64 ^ a * 64 ^ k + n / 64 ^ a < 64 ^ 10
turned_fits n a k h l =
    let e : 64 ^ k * 64 ^ a ≡ 64 ^ 10 = cc (pow-add 64 k a) in
    let d = div_below n (64 ^ a) (64 ^ k) (pow_pos a) (omega arith) in
    let s = mul-add-lt (n % 64 ^ a) (64 ^ k) (n / 64 ^ a) (64 ^ a) (mod_below n (64 ^ a) (pow_pos a)) d in
    omega arith
