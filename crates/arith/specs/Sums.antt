-- Sums of signs and magnitudes, and what ENT and ENN load.
use Rattle.std.specs.Prelude.{◌≡◌, ℕ, ◌+◌, ◌-◌, ◌^◌, ◌<◌, Bool, cond, ◌+ℤ◌, Some, None, Option, ◌==◌, nat_le}
use Rattle.word.specs.declared.index.Index.{Index}
use Rattle.word.specs.declared.sign.Sign.{Sign}
use Rattle.word.specs.Sign.{like}
use Rattle.word.specs.declared.word.Word.{Word}
use Rattle.word.specs.Word.{word_of, signed}

-- the sign of a sum: that of the larger, and the register's at zero
abbrev pub sum_sign : Sign → ℕ → Sign → ℕ → Sign
sum_sign s m t n = cond (like s t) s (cond (nat_le n m) s t)

-- the magnitude of a sum, before any of it is lost
abbrev pub sum_size : Sign → ℕ → Sign → ℕ → ℕ
sum_size s m t n = cond (like s t) (m + n) ((m - n) + (n - m))

-- a register after v is added: the remainder modulo 2^30
abbrev pub sum_word : Word → Word → Word
sum_word a v =
    word_of (sum_sign a.sign a.magnitude v.sign v.magnitude) (sum_size a.sign a.magnitude v.sign v.magnitude)

-- whether the sum is 2^30 or more, which turns the toggle on
abbrev pub sum_over : Word → Word → Bool
sum_over a v = nat_le (2 ^ 30) (sum_size a.sign a.magnitude v.sign v.magnitude)

-- an index register after a number is added: none just where the sum is beyond 4,095
abbrev pub IndexSum : Index → Sign → ℕ → Option Index → Type 0
IndexSum i t n None = 4095 < sum_size i.sign i.magnitude t n
IndexSum i t n (Some j) =
    (j.sign ≡ sum_sign i.sign i.magnitude t n)
    × (j.magnitude ≡ sum_size i.sign i.magnitude t n)
    × (signed j.sign j.magnitude ≡ signed i.sign i.magnitude +ℤ signed t n)

-- what ENT loads: M, at M = 0 with the instruction's sign
abbrev pub entered : Sign → Word → Word
entered s m = word_of (cond (m.magnitude == 0) s m.sign) m.magnitude
