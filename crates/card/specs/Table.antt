-- The characters of MIX and their codes.
use Rattle.std.specs.Prelude.{◌≡◌, ℕ, suc, ◌+◌, ◌-◌, ◌<◌, cond, ◌&&◌, List, [], ◌∷◌, Some, None, codes, Option, ◌==◌, ◌≢◌, nat_le, nat_lt, slice_index}

-- the characters of the codes 0 to 55, in their order
unfoldable pub characters : List ℕ
characters = codes " ABCDEFGHI~JKLMNOPQR[]STUVWXYZ0123456789.,()+-*/=$<>@;:'"

-- the character of a code; above 55 it is a blank
abbrev pub character_of : ℕ → ℕ
character_of c = cond (nat_lt c 56) (slice_index characters c) 32

-- where a byte first stands in a list whose places are counted from k
abbrev pub place_from : ℕ → List ℕ → ℕ → Option ℕ
place_from k [] b = None
place_from k (x ∷ xs) b = cond (x == b) (Some k) (place_from (suc k) xs b)

-- the code of a byte: its place among the characters
unfoldable pub code_of : ℕ → Option ℕ
code_of b = place_from 0 characters b

-- one character has its own code; any other is left to the rest
abbrev pub one : ℕ → ℕ → (ℕ → Option ℕ) → ℕ → Option ℕ
one x c rest b = cond (b == x) (Some c) (rest b)

-- the characters low to high have the codes from c on; any other is left to the rest
abbrev pub run : ℕ → ℕ → ℕ → (ℕ → Option ℕ) → ℕ → Option ℕ
run low high c rest b = cond (nat_le low b && nat_le b high) (Some (b - low + c)) (rest b)

-- the code of a mark
abbrev pub mark_code : ℕ → Option ℕ
mark_code =
    one 46 40 (one 44 41 (one 40 42 (one 41 43 (one 43 44 (one 45 45 (one 42 46 (one 47 47
    (one 61 48 (one 36 49 (one 60 50 (one 62 51 (one 64 52 (one 59 53 (one 58 54 (one 39 55 (λ _. None))))))))))))))))

-- the code of a byte by the runs of the letters and the digits
abbrev pub run_code : ℕ → Option ℕ
run_code = one 32 0 (run 65 73 1 (one 126 10 (run 74 82 11 (one 91 20 (one 93 21 (run 83 90 22 (run 48 57 30 mark_code)))))))

-- codes and characters undo each other
pub record Undo : Type 0 where
  -- the character of a code has that code
  pub code_again : (c : ℕ) → c < 56 → code_of (character_of c) ≡ Some c
  -- the code of a character has that character
  pub character_again : (b c : ℕ) → code_of b ≡ Some c → (c < 56) × (character_of c ≡ b)
  -- a byte without a code is no code's character
  pub no_other : (b c : ℕ) → code_of b ≡ None → c < 56 → character_of c ≢ b

-- what a code that is found says of its byte, and what it says that none is found
abbrev pub Stands : ℕ → Option ℕ → Type 0
Stands b None = (c : ℕ) → c < 56 → character_of c ≢ b
Stands b (Some c) = (c < 56) × (character_of c ≡ b)
