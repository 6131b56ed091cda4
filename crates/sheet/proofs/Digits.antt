-- Words by their digits.
use Rattle.std.proofs.Common.{◌≡◌, ℕ, ◌+◌, ◌/◌, ◌%◌, ◌^◌, ◌<◌, true, eqb, ltb, List, [], ◌∷◌, length, sym, refl, ap, ◌∙◌, arith}
use Rattle.std.proofs.lemmas.Bool.{and_parts, eqb-true, false≢true}
use Rattle.lines.specs.Lines.{sign_text, byte_texts, word_digits}
use Rattle.word.specs.Bytes.{packed, are_bytes}
use Rattle.word.specs.Sign.{like}
use Rattle.word.specs.Word.{word_of, bytes_of}
use Rattle.word.specs.declared.sign.Sign.{Sign}
use Rattle.word.specs.declared.sign.Sign.TheVariants.{Plus, Minus}
use Rattle.word.specs.declared.word.Word.{Word}
use Rattle.word.proofs.Bytes.{bytes_unpacked}
use Rattle.word.proofs.Same.{word_same, small_five, word_of_magnitude}
use Rattle.sheet.specs.Sheet.{is_plus_zero}
use Rattle.sheet.proofs.Cuts.{Without}

without_sign : (s : Sign) → sign_text s ≡ 10 → ⊥
without_sign Plus e = omega arith
without_sign Minus e = omega arith

without_bytes : (bs : List ℕ) → Without 10 (byte_texts bs)
without_bytes [] = tt
without_bytes (b ∷ bs) = (λ e. omega arith, (λ e. omega arith, (λ e. omega arith, without_bytes bs)))

pub without_digits : (w : Word) → Without 10 (word_digits w)
unfolding word_digits
without_digits w = (without_sign w.sign, without_bytes (bytes_of w))

-- signs and bytes by their digits
pub sign_told : (s t : Sign) → sign_text s ≡ sign_text t → s ≡ t
sign_told Plus Plus e = refl
sign_told Plus Minus e = absurd (omega arith)
sign_told Minus Plus e = absurd (omega arith)
sign_told Minus Minus e = refl

bytes_told : (bs cs : List ℕ) → are_bytes bs ≡ true → are_bytes cs ≡ true → byte_texts bs ≡ byte_texts cs → bs ≡ cs
bytes_told [] [] p q e = refl
bytes_told [] (c ∷ cs) p q e = absurd (let h = ap length e in omega arith)
bytes_told (b ∷ bs) [] p q e = absurd (let h = ap length e in omega arith)
bytes_told (b ∷ bs) (c ∷ cs) p q e =
    let i = and_parts (ltb b 64) (are_bytes bs) p in
    let j = and_parts (ltb c 64) (are_bytes cs) q in
    let f : 48 + b / 10 ≡ 48 + c / 10 = cc in
    let g : 48 + b % 10 ≡ 48 + c % 10 = cc in
    let t : bs ≡ cs = bytes_told bs cs i.1 j.1 (cc) in
    let u : b ≡ c = omega arith in
    cc

-- a word by its digits
pub word_told : (v w : Word) → word_digits v ≡ word_digits w → v ≡ w
unfolding word_digits
word_told v w e =
    let s : sign_text v.sign ≡ sign_text w.sign = cc in
    let b : byte_texts (bytes_of v) ≡ byte_texts (bytes_of w) = cc in
    let f = bytes_told (bytes_of v) (bytes_of w) (bytes_unpacked 5 v.magnitude) (bytes_unpacked 5 w.magnitude) b in
    word_same v w (sign_told v.sign w.sign s) (sym (small_five v.magnitude v.small) ∙ ap packed f ∙ small_five w.magnitude w.small)

-- +0 is one word
like_plus : (s : Sign) → like s Plus ≡ true → s ≡ Plus
like_plus Plus e = refl
like_plus Minus e = absurd (false≢true e)

pub zeros_same : (v w : Word) → is_plus_zero v ≡ true → is_plus_zero w ≡ true → v ≡ w
zeros_same v w p q =
    let h = and_parts (like v.sign Plus) (eqb v.magnitude 0) p in
    let k = and_parts (like w.sign Plus) (eqb w.magnitude 0) q in
    word_same v w (like_plus v.sign h.0 ∙ sym (like_plus w.sign k.0)) (eqb-true v.magnitude 0 h.1 ∙ sym (eqb-true w.magnitude 0 k.1))

-- a location by its word
pub location_told : (l m : ℕ) → l < 2 ^ 16 → m < 2 ^ 16 → word_of Plus l ≡ word_of Plus m → l ≡ m
location_told l m h k e =
    let f : l % 2 ^ 30 ≡ m % 2 ^ 30 = sym (word_of_magnitude Plus l) ∙ ap (λ (w : Word). w.magnitude) e ∙ word_of_magnitude Plus m in
    omega arith
