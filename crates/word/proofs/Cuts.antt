-- The numbers of a field's bytes, as the code works them out.
use Rattle.std.proofs.Common.{◌≡◌, ℕ, ◌+◌, ◌-◌, ◌*◌, ◌/◌, ◌%◌, ◌^◌, ◌<◌, true, List, ◌++◌, length, take, drop, replicate, ◌∙◌, arith, length-append, length-drop}
use lib.ListN.{length-replicate}
use Rattle.std.proofs.lemmas.List.{take_at, drop_at, append_assoc, length-take-le}
use Rattle.word.specs.declared.field.Field.{Field}
use Rattle.word.specs.Bytes.{packed, unpacked, are_bytes}
use Rattle.word.specs.Field.{before, width, inside, right_end, read_bytes, stored_bytes, Stored}
use Rattle.word.proofs.Bytes.{bytes_unpacked, bytes_append, bytes_take, bytes_drop, bytes_zeros, packed_zeros, packed_append, packed_take, packed_drop, packed_lt, unpacked_at}
use Rattle.word.proofs.Same.{length_five, small_five}

-- a field that is read

module _ (f : Field) (m : ℕ) where
  front : List ℕ
  front = take f.right (unpacked 5 m)

  front_length : length front ≡ f.right
  unfolding front
  front_length = length-take-le f.right (unpacked 5 m) (omega (arith, length_five m))

  front_bytes : are_bytes front ≡ true
  unfolding front
  front_bytes = bytes_take f.right (unpacked 5 m) (bytes_unpacked 5 m)

  pub read_length : length (read_bytes f.left f.right (unpacked 5 m)) ≡ 5
  unfolding read_bytes inside front
  read_length = let e = front_length in simp (length-append, length-replicate, length-drop) (omega arith)

  pub read_are_bytes : are_bytes (read_bytes f.left f.right (unpacked 5 m)) ≡ true
  unfolding read_bytes inside front
  read_are_bytes = bytes_append (replicate (5 - width f.left f.right) 0) (drop (before f.left) front) (bytes_zeros (5 - width f.left f.right)) (bytes_drop (before f.left) front front_bytes)

  pub read_back : unpacked 5 (packed (read_bytes f.left f.right (unpacked 5 m))) ≡ read_bytes f.left f.right (unpacked 5 m)
  read_back = unpacked_at 5 _ read_length read_are_bytes

  pub read_value : m < 2 ^ 30 → packed (read_bytes f.left f.right (unpacked 5 m)) ≡ m / 64 ^ (5 - f.right) % 64 ^ width f.left f.right
  unfolding read_bytes inside front
  read_value h =
      packed_zeros (5 - width f.left f.right) (drop (before f.left) front)
      ∙ packed_drop (before f.left) front front_bytes
      ∙ rw (front_length, packed_take f.right (unpacked 5 m) (bytes_unpacked 5 m), length_five m, small_five m h)

-- a field that is stored, v the register's magnitude and m the word's

module _ (f : Field) (v m : ℕ) where
  left : List ℕ
  left = take (before f.left) (unpacked 5 m)

  middle : List ℕ
  middle = right_end f.left f.right (unpacked 5 v)

  end : List ℕ
  end = drop f.right (unpacked 5 m)

  left_length : length left ≡ before f.left
  unfolding left
  left_length = length-take-le (before f.left) (unpacked 5 m) (omega (arith, length_five m))

  middle_length : length middle ≡ width f.left f.right
  unfolding middle right_end
  middle_length = let e = length_five v in simp length-drop (omega arith)

  end_length : length end ≡ 5 - f.right
  unfolding end
  end_length = let e = length_five m in simp length-drop (omega arith)

  up_to_length : length (left ++ middle) ≡ f.right
  up_to_length = let a = left_length in let b = middle_length in simp length-append (omega arith)

  after_length : length (middle ++ end) ≡ 5 - before f.left
  after_length = let a = middle_length in let b = end_length in simp length-append (omega arith)

  pub stored_length : length (stored_bytes f.left f.right (unpacked 5 v) (unpacked 5 m)) ≡ 5
  unfolding stored_bytes left middle end
  stored_length = let a = left_length in let b = after_length in length-append left (middle ++ end) ∙ omega arith

  pub stored_are_bytes : are_bytes (stored_bytes f.left f.right (unpacked 5 v) (unpacked 5 m)) ≡ true
  unfolding stored_bytes left middle end right_end
  stored_are_bytes =
      bytes_append left (middle ++ end) (bytes_take (before f.left) (unpacked 5 m) (bytes_unpacked 5 m))
      (bytes_append middle end (bytes_drop (5 - width f.left f.right) (unpacked 5 v) (bytes_unpacked 5 v)) (bytes_drop f.right (unpacked 5 m) (bytes_unpacked 5 m)))

  pub stored_small : packed (stored_bytes f.left f.right (unpacked 5 v) (unpacked 5 m)) < 2 ^ 30
  stored_small = rw stored_length at (packed_lt (stored_bytes f.left f.right (unpacked 5 v) (unpacked 5 m)) stored_are_bytes)

  pub stored_law : Stored f.left f.right (unpacked 5 v) (unpacked 5 m) (stored_bytes f.left f.right (unpacked 5 v) (unpacked 5 m))
  unfolding stored_bytes inside left middle end
  stored_law =
      let e = append_assoc left middle end in
      record {
        reads = rw (← e, take_at (left ++ middle) end f.right up_to_length) (drop_at left middle (before f.left) left_length);
        left = take_at left (middle ++ end) (before f.left) left_length;
        right = rw (← e) (drop_at (left ++ middle) end f.right up_to_length);
      }

  pub stored_back : Stored f.left f.right (unpacked 5 v) (unpacked 5 m) (unpacked 5 (packed (stored_bytes f.left f.right (unpacked 5 v) (unpacked 5 m))))
  stored_back = rw (unpacked_at 5 _ stored_length stored_are_bytes) stored_law

  pub stored_value : v < 2 ^ 30 → m < 2 ^ 30 → packed (stored_bytes f.left f.right (unpacked 5 v) (unpacked 5 m)) ≡ m / 64 ^ (5 - before f.left) * 64 ^ (5 - before f.left) + v % 64 ^ width f.left f.right * 64 ^ (5 - f.right) + m % 64 ^ (5 - f.right)
  unfolding stored_bytes left middle end right_end
  stored_value p q = packed_append left (middle ++ end) ∙ rw (packed_append middle end, after_length, end_length, at_left, at_middle, at_end) (omega arith)
    where
      at_left : packed left ≡ m / 64 ^ (5 - before f.left)
      at_left = packed_take (before f.left) (unpacked 5 m) (bytes_unpacked 5 m) ∙ rw (length_five m, small_five m q)

      at_middle : packed middle ≡ v % 64 ^ width f.left f.right
      at_middle =
          let e : length (unpacked 5 v) - (5 - width f.left f.right) ≡ width f.left f.right = omega (arith, length_five v) in
          packed_drop (5 - width f.left f.right) (unpacked 5 v) (bytes_unpacked 5 v) ∙ rw (e, small_five v p)

      at_end : packed end ≡ m % 64 ^ (5 - f.right)
      at_end = packed_drop f.right (unpacked 5 m) (bytes_unpacked 5 m) ∙ rw (length_five m, small_five m q)
