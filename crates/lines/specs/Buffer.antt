-- A text for the caller's buffer, or the refusal of one that is too short.
use Rattle.std.specs.Prelude.{◌≡◌, ℕ, ◌<◌, List, ◌++◌, length, drop, Ok, Err, Result}
use Rattle.lines.specs.declared.buffer.TooLong.{TooLong}

-- the number of the refusal: the text is longer than the buffer
abbrev pub too_long_number : ℕ
too_long_number = 22

-- the text stands at the buffer's front and its length is told, what follows it stays;
-- or it is longer than the buffer, which stays as it was, and its length is told all the same
abbrev pub Copied : List ℕ → List ℕ → List ℕ → Result ℕ TooLong → Type 0
Copied text old new (Ok n) = (n ≡ length text) × (new ≡ text ++ drop n old)
Copied text old new (Err e) = (e.length ≡ length text) × (length old < length text) × (new ≡ old)
