-- The address in an instruction's word.
use Rattle.std.proofs.Common.{◌≡◌, ℕ, ◌+◌, ◌*◌, ◌/◌, ◌%◌, ◌<◌, ◌≤◌, ap, ◌∙◌, arith, lit≤}
use Rattle.instructions.specs.Instructions.{instruction_word}
use Rattle.word.proofs.Cuts.{read_value, stored_value}
use Rattle.word.proofs.Same.{word_of_sign, word_of_magnitude, word_of_same}
use Rattle.word.specs.Bytes.{packed}
use Rattle.word.specs.Field.{stored_bytes, stored_at}
use Rattle.word.specs.Word.{word_of, bytes_of}
use Rattle.word.specs.declared.field.Field.{Field}
use Rattle.word.specs.declared.sign.Sign.{Sign}
use Rattle.word.specs.declared.word.Word.{Word}
use Rattle.deck_laws.specs.Defined.{address_in}

-- sign and bytes 1 and 2
abbrev front : Field
front = record { left = 0; right = 2; ordered = lit≤ tt; within = lit≤ tt }

address_value : (w : Word) → address_in w ≡ word_of w.sign (w.magnitude / 262144 % 4096)
address_value w = ap (word_of w.sign) (read_value front w.magnitude w.small)

-- the address of a word that was put together from its parts
pub address_whole : (s : Sign) (a r : ℕ) → a ≤ 4095 → r < 262144 → address_in (word_of s (a * 262144 + r)) ≡ word_of s a
address_whole s a r h k =
    let w = word_of s (a * 262144 + r) in
    let m : w.magnitude ≡ a * 262144 + r = word_of_magnitude s (a * 262144 + r) ∙ omega arith in
    let n : w.magnitude / 262144 % 4096 ≡ a = omega arith in
    address_value w ∙ ap (λ (t : Sign). word_of t (w.magnitude / 262144 % 4096)) (word_of_sign s (a * 262144 + r)) ∙ ap (word_of s) n

pub address_made : (a : Word) (i f c : ℕ) → a.magnitude ≤ 4095 → i < 64 → f < 64 → c < 64 → address_in (instruction_word a i f c) ≡ a
address_made a i f c h p q r =
    let e : a.magnitude * 262144 + i * 4096 + f * 64 + c ≡ a.magnitude * 262144 + (i * 4096 + f * 64 + c) = omega arith in
    ap (λ (n : ℕ). address_in (word_of a.sign n)) e
    ∙ address_whole a.sign a.magnitude (i * 4096 + f * 64 + c) h (omega arith)
    ∙ word_of_same a

-- the address of a word into which it was stored
pub address_stored : (u w : Word) → u.magnitude ≤ 4095 → address_in (stored_at 0 2 u w) ≡ u
address_stored u w h =
    let m = w.magnitude in
    let v = u.magnitude in
    let k = w.small in
    let e : packed (stored_bytes 0 2 (bytes_of u) (bytes_of w)) ≡ v * 262144 + m % 262144 = stored_value front v m u.small w.small ∙ omega arith in
    ap (λ (n : ℕ). address_in (word_of u.sign n)) e ∙ address_whole u.sign v (m % 262144) h (omega arith) ∙ word_of_same u
