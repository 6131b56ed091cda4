-- The field 0:5 is the whole word: read, it is the word; filled, it is the register.
use Rattle.std.proofs.Common.{◌≡◌, ℕ, ◌==◌, ◌&&◌, true, sym, subst, arith}
use Rattle.std.proofs.lemmas.List.{take_all, drop_all, append-nil}
use Rattle.std.proofs.lemmas.Bool.{and_parts, eqb-true}
use Rattle.word.specs.declared.field.Field.{Field}
use Rattle.word.specs.declared.word.Word.{Word}
use Rattle.word.specs.Bytes.{unpacked}
use Rattle.word.specs.Field.{inside, right_end, read_bytes, stored_bytes, field_of, stored_in, Stored}
use Rattle.word.specs.Word.{bytes_of}
use Rattle.word.proofs.Cuts.{stored_law}
use Rattle.word.proofs.Same.{length_five, from_bytes_of}

read_all : (m : ℕ) → read_bytes 0 5 (unpacked 5 m) ≡ unpacked 5 m
unfolding read_bytes inside
read_all m = take_all 5 (unpacked 5 m) (omega (arith, length_five m))

stored_all : (v m : ℕ) → stored_bytes 0 5 (unpacked 5 v) (unpacked 5 m) ≡ unpacked 5 v
unfolding stored_bytes right_end
stored_all v m = rw (drop_all 5 (unpacked 5 m) (omega (arith, length_five m))) (append-nil (unpacked 5 v))

module _ (f : Field) (h : (f.left == 0 && f.right == 5) ≡ true) where
  at_left : f.left ≡ 0
  at_left = eqb-true f.left 0 (and_parts _ _ h).0

  at_right : f.right ≡ 5
  at_right = eqb-true f.right 5 (and_parts _ _ h).1

  pub whole_bytes : (w : Word) → bytes_of w ≡ read_bytes f.left f.right (bytes_of w)
  whole_bytes w = rw (at_left, at_right) (sym (read_all w.magnitude))

  pub whole_read : (w : Word) → w ≡ field_of f w
  whole_read w = rw (at_left, at_right, read_all w.magnitude) (sym (from_bytes_of w))

  pub whole_stored : (w v : Word) → v ≡ stored_in f v w
  whole_stored w v = rw (at_left, at_right, stored_all v.magnitude w.magnitude) (sym (from_bytes_of v))

  pub whole_law : (w v : Word) → Stored f.left f.right (bytes_of v) (bytes_of w) (bytes_of v)
  whole_law w v = subst (λ bs. Stored f.left f.right (bytes_of v) (bytes_of w) bs) (rw (at_left, at_right) (stored_all v.magnitude w.magnitude)) (stored_law f v.magnitude w.magnitude)
