-- AX as one number and as ten bytes.
use Rattle.std.proofs.Common.{◌≡◌, ℕ, ◌+◌, ◌*◌, ◌/◌, ◌^◌, ◌<◌, ◌++◌}
use lib.Arith.{digits_div, digits_mod}
use Rattle.word.specs.Bytes.{unpacked}
use Rattle.word.proofs.Bytes.{unpacked_rest, unpacked_split}

-- ten bytes are the five of the part above 2^30 and the five lowest
pub halves : (n : ℕ) → unpacked 10 n ≡ unpacked 5 (n / 1073741824) ++ unpacked 5 n
halves n = unpacked_split 5 5 n

-- the bytes of A and of X are those of the joint number
pub tens : (a x : ℕ) → x < 64 ^ 5 → unpacked 10 (a * 1073741824 + x) ≡ unpacked 5 a ++ unpacked 5 x
tens a x h = cc (halves (a * 1073741824 + x), unpacked_rest 5 (a * 1073741824 + x), digits_div a h, digits_mod a h)
