-- Bytes of 0 to 63, and the numbers that they write.
use Rattle.std.specs.Prelude.{ℕ, zero, suc, ◌+◌, ◌*◌, ◌/◌, ◌%◌, ◌^◌, Bool, List, [], ◌∷◌, length, nat_lt}
use Rattle.std.specs.List.{list_all}

-- the number that a list of bytes writes, the first byte the highest
abbrev pub packed : List ℕ → ℕ
packed [] = 0
packed (b ∷ bs) = b * 64 ^ length bs + packed bs

-- the lowest n bytes of a number, the highest first
unfoldable pub unpacked : ℕ → ℕ → List ℕ
unpacked zero m = []
unpacked (suc n) m = (m / 64 ^ n % 64) ∷ unpacked n m

-- each is a byte of 0 to 63
abbrev pub are_bytes : List ℕ → Bool
are_bytes bs = list_all (λ b. nat_lt b 64) bs
