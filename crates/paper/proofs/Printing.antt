-- What the words of a block print.
use Rattle.std.proofs.Common.{◌≡◌, ℕ, ◌+◌, ◌-◌, ◌*◌, ◌<◌, ◌≤◌, cond, ltb, List, [], ◌∷◌, ◌++◌, map, length, get_or, take, drop, replicate, Some, Option, inl, inr, ◌⊎◌, refl, sym, ap, subst, true, ◌∙◌, arith, length-append, length-take-le}
use Rattle.std.proofs.lemmas.Bool.{and_from, cases_lt, cond-true, cond-false, lt-ltb, le-ltb}
use Rattle.std.proofs.lemmas.List.{append_assoc, length-map, length-replicate, take_at, drop_at, take-replicate}
use Rattle.std.proofs.Math.Seq.{take-append-add}
use Rattle.std.specs.Option.{option_map}
use Rattle.word.specs.declared.sign.Sign.{Sign}
use Rattle.word.specs.declared.sign.Sign.TheVariants.{Plus}
use Rattle.word.specs.declared.word.Word.{Word}
use Rattle.word.specs.Bytes.{are_bytes}
use Rattle.word.specs.Word.{word_of, word_from, bytes_of}
use Rattle.word.proofs.Same.{length_five, bytes_of_from, word_of_sign}
use Rattle.card.specs.Table.{characters, character_of, code_of}
use Rattle.card.specs.Text.{both, text_codes, text_word, text_words, word_text, words_text}
use Rattle.card.proofs.Blocks.{length_texts}
use Rattle.card.proofs.Rule.{undo}
use Rattle.rack.specs.Transfers.{block_in, printable}
use Rattle.rack.specs.declared.kind.Kind.TheVariants.{Punch as PunchKind, Printer as PrinterKind}
use Rattle.paper.specs.Tray.{device_kind, device_size}
use Rattle.paper.specs.declared.device.Device.{Device}
use Rattle.paper.specs.declared.device.Device.TheVariants.{Punch, Printer}
use Rattle.rack.specs.Units.{word_shown, block_text, columns}

-- a byte as punch and printer keep it: 0 where it has no character
abbrev kept : ℕ → ℕ
kept b = cond (ltb b 56) b 0

-- its character and its code
pub record Kept (b : ℕ) : Type 0 where
  pub below : kept b < 56
  pub character : character_of (kept b) ≡ character_of b
  pub code : code_of (character_of b) ≡ Some (kept b)

byte_kept : (b : ℕ) → Kept b
unfolding characters
byte_kept b = at (cases_lt b 56)
  where
    at : (b < 56) ⊎ (56 ≤ b) → Kept b
    at (inl h) =
        let e : kept b ≡ b = cond-true (ltb b 56) b 0 (lt-ltb b 56 h) in
        record { below = omega arith; character = ap character_of e; code = undo.code_again b h ∙ ap Some (sym e) }
    at (inr h) =
        let e : kept b ≡ 0 = cond-false (ltb b 56) b 0 (le-ltb b 56 h) in
        let f : character_of b ≡ character_of 0 = cond-false (ltb b 56) (get_or characters b 0) 32 (le-ltb b 56 h) in
        record { below = omega arith; character = ap character_of e ∙ sym f; code = ap code_of f ∙ undo.code_again 0 (omega arith) ∙ ap Some (sym e) }

-- a text that is printed has the codes that are kept
codes_kept : (bs : List ℕ) → text_codes (map character_of bs) ≡ Some (map kept bs)
codes_kept [] = refl
codes_kept (b ∷ bs) = ap (λ (o : Option ℕ). both o (text_codes (map character_of bs))) (byte_kept b).code ∙ ap (both (Some (kept b))) (codes_kept bs)

characters_kept : (bs : List ℕ) → map character_of (map kept bs) ≡ map character_of bs
characters_kept [] = refl
characters_kept (b ∷ bs) = ap (λ (c : ℕ). c ∷ map character_of (map kept bs)) (byte_kept b).character ∙ ap (λ (l : List ℕ). character_of b ∷ l) (characters_kept bs)

bytes_kept : (bs : List ℕ) → are_bytes (map kept bs) ≡ true
bytes_kept [] = refl
bytes_kept (b ∷ bs) = and_from (ltb (kept b) 64) (are_bytes (map kept bs)) (lt-ltb (kept b) 64 (omega (arith, (byte_kept b).below))) (bytes_kept bs)

long_five : (w : Word) → length (word_text w) ≡ 5
long_five w = length-map (bytes_of w) character_of ∙ length_five w.magnitude

-- the text of a word is that of the word as it is kept
text_kept : (w : Word) → word_text (printable w) ≡ word_text w
text_kept w = ap (map character_of) (bytes_of_from Plus (map kept (bytes_of w)) (length-map (bytes_of w) kept ∙ length_five w.magnitude) (bytes_kept (bytes_of w))) ∙ characters_kept (bytes_of w)

shown_kept : (w : Word) → word_shown (printable w).sign (printable w) ≡ word_text w
shown_kept w = ap (λ (s : Sign). word_shown s (printable w)) (word_of_sign Plus _) ∙ text_kept w

-- a block that is printed is read as it is kept, whatever follows it
pub block_again : (ws : List Word) (rest : List ℕ) → text_words (length ws) (words_text ws ++ rest) ≡ Some (map printable ws)
unfolding text_words
block_again [] rest = refl
block_again (w ∷ ws) rest =
    let e = append_assoc (word_text w) (words_text ws) rest in
    ap (λ (t : List ℕ). both (text_word (take 5 t)) (text_words (length ws) (drop 5 t))) e
    ∙ ap (λ (t : List ℕ). both (text_word t) (text_words (length ws) (drop 5 (word_text w ++ (words_text ws ++ rest))))) (take_at (word_text w) (words_text ws ++ rest) 5 (long_five w))
    ∙ ap (λ (t : List ℕ). both (text_word (word_text w)) (text_words (length ws) t)) (drop_at (word_text w) (words_text ws ++ rest) 5 (long_five w))
    ∙ ap (λ (o : Option Word). both o (text_words (length ws) (words_text ws ++ rest))) (ap (option_map (word_from Plus)) (codes_kept (bytes_of w)))
    ∙ ap (both (Some (printable w))) (block_again ws rest)

-- and its text is what was printed
pub text_again : (ws : List Word) → block_text (Some (map printable ws)) ≡ words_text ws
text_again [] = refl
text_again (w ∷ ws) = ap (λ (t : List ℕ). t ++ block_text (Some (map printable ws))) (shown_kept w) ∙ ap (λ (t : List ℕ). word_text w ++ t) (text_again ws)

-- a text of up to 120 columns
pub columns_of : (xs : List ℕ) (n : ℕ) → length xs + n ≡ 120 → columns xs ≡ xs ++ replicate n 32
unfolding columns
columns_of xs n h =
    ap (λ (m : ℕ). take m (xs ++ replicate 120 32)) (sym h)
    ∙ take-append-add xs (replicate 120 32) n
    ∙ ap (λ (l : List ℕ). xs ++ l) (take-replicate n 120 32 (omega arith))

-- the line of a block: what its words print, and blanks
pub record Line (k : ℕ) (ws : List Word) (line : List ℕ) : Type 0 where
  pub block : text_words k line ≡ Some (map printable ws)
  pub shown : columns (block_text (text_words k line)) ≡ line

pub line_kept : (k n : ℕ) (ws : List Word) (line : List ℕ) → 5 * k + n ≡ 120 → length ws ≡ k → line ≡ words_text ws ++ replicate n 32 → Line k ws line
line_kept k n ws line h l e =
    let b = ap (text_words k) e ∙ ap (λ (i : ℕ). text_words i (words_text ws ++ replicate n 32)) (sym l) ∙ block_again ws (replicate n 32) in
    record {
      block = b;
      shown = ap (λ (o : Option (List Word)). columns (block_text o)) b ∙ ap columns (text_again ws) ∙ columns_of (words_text ws) n (omega (arith, length_texts ws)) ∙ sym e;
    }

-- the line of a device's block
pub device_line : (d e : Device) (area : List Word) (line : List ℕ) → d ≡ e → line ≡ words_text (block_in area (device_kind e)) ++ replicate (120 - 5 * device_size e) 32 → Line (device_size d) (block_in area (device_kind d)) line
unfolding block_in
device_line d e area line p q = subst (λ (x : Device). Line (device_size x) (block_in area (device_kind x)) line) (sym p) (at e q)
  where
    long : (k : ℕ) → length (take k (area ++ replicate k (word_of Plus 0))) ≡ k
    long k = length-take-le k (area ++ replicate k (word_of Plus 0)) (omega (arith, length-append area (replicate k (word_of Plus 0)), length-replicate k (word_of Plus 0)))

    at : (x : Device) → line ≡ words_text (block_in area (device_kind x)) ++ replicate (120 - 5 * device_size x) 32 → Line (device_size x) (block_in area (device_kind x)) line
    at Punch f = line_kept 16 40 (block_in area PunchKind) line refl (long 16) f
    at Printer f = line_kept 24 0 (block_in area PrinterKind) line refl (long 24) f
