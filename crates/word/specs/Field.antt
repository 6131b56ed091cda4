-- Fields: which bytes they name, how they are read and how they are stored.
use Rattle.std.specs.Prelude.{◌≡◌, ℕ, ◌-◌, ◌/◌, ◌%◌, Bool, cond, ◌&&◌, List, ◌++◌, take, drop, replicate, ◌==◌, nat_le, true, false, Result, MatchResult}
use Rattle.word.specs.declared.field.Field.{Field}
use Rattle.word.specs.declared.field.NoField.{NoField}
use Rattle.word.specs.declared.sign.Sign.TheVariants.{Plus}
use Rattle.word.specs.declared.word.Word.{Word}
use Rattle.word.specs.Word.{word_from, bytes_of}

-- F = 8 L + R names a field where L ≤ R ≤ 5
abbrev pub is_field : ℕ → Bool
is_field f = nat_le (f / 8) (f % 8) && nat_le (f % 8) 5

-- the result is the field of F = 8 L + R, or an error where F names no field
abbrev pub Decodes : ℕ → Result Field NoField → Type 0
Decodes f r = MatchResult r (λ field. (is_field f ≡ true) × (field.left ≡ f / 8) × (field.right ≡ f % 8)) (λ _. is_field f ≡ false)

-- how many bytes stand before the field l to r, the sign not counted
abbrev pub before : ℕ → ℕ
before l = l - 1

-- how many bytes it has, the sign not counted
abbrev pub width : ℕ → ℕ → ℕ
width l r = r - before l

-- the field's own bytes
unfoldable pub inside : ℕ → ℕ → List ℕ → List ℕ
inside l r bs = drop (before l) (take r bs)

-- the right end of a register's bytes, as many as the field has
unfoldable pub right_end : ℕ → ℕ → List ℕ → List ℕ
right_end l r vs = drop (5 - width l r) vs

-- a field's bytes as they are read: at the right end, zeros before them
unfoldable pub read_bytes : ℕ → ℕ → List ℕ → List ℕ
read_bytes l r bs = replicate (5 - width l r) 0 ++ inside l r bs

-- a field read: plus unless byte 0 is in the field
abbrev pub field_of : Field → Word → Word
field_of f w = word_from (cond (f.left == 0) w.sign Plus) (read_bytes f.left f.right (bytes_of w))

-- the bytes after a store: the register's right end stands in the field
unfoldable pub stored_bytes : ℕ → ℕ → List ℕ → List ℕ → List ℕ
stored_bytes l r vs bs = take (before l) bs ++ (right_end l r vs ++ drop r bs)

-- a word after a store of v into the bytes l to r: the sign is v's if byte 0 is among them
abbrev pub stored_at : ℕ → ℕ → Word → Word → Word
stored_at l r v w = word_from (cond (l == 0) v.sign w.sign) (stored_bytes l r (bytes_of v) (bytes_of w))

abbrev pub stored_in : Field → Word → Word → Word
stored_in f v w = stored_at f.left f.right v w

-- what a store does to the bytes, vs being the register's, old the word's and new the word's after it
pub record Stored (l r : ℕ) (vs old new : List ℕ) : Type 0 where
  -- read again, the field gives the register's right end
  pub reads : inside l r new ≡ right_end l r vs
  -- the bytes before the field are as they were
  pub left : take (before l) new ≡ take (before l) old
  -- and so are those after it
  pub right : drop r new ≡ drop r old
