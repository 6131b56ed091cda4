-- When two words are the same, and words from bytes and back.
use Rattle.std.proofs.Common.{◌≡◌, ℕ, suc, ◌/◌, ◌%◌, ◌^◌, ◌<◌, true, List, [], ◌∷◌, length, sym, refl, ap, ◌∙◌, mod-eq_of_lt, div-one, Decides, rules, subst}
use mathlib.Core.HLevel.{is_prop→PathP}
use native.Mathlib.Bridge.{le_prop}
use Rattle.word.specs.declared.word.Word.{Word}
use Rattle.word.specs.contracts.word.WordPartialEq.TheImpl as words
use Rattle.word.specs.contracts.sign.Sign.{the_type}
use denote.Enum.Bare.{same_true}
use Rattle.std.specs.Cmp.Rules.{comparing}
use Rattle.std.proofs.lemmas.Bool.{and_parts, eqb-true}
use Rattle.word.specs.declared.sign.Sign.{Sign}
use Rattle.word.specs.Bytes.{packed, unpacked, are_bytes}
use Rattle.word.specs.Word.{word_of, word_from, bytes_of}
use Rattle.word.proofs.Bytes.{length_unpacked, packed_unpacked, unpacked_rest, unpacked_at}

-- a word is its sign and its magnitude
pub word_same : (a b : Word) → a.sign ≡ b.sign → a.magnitude ≡ b.magnitude → a ≡ b
word_same a b e f = λ i. record { sign = e i; magnitude = f i; small = is_prop→PathP (λ j. f j < 2 ^ 30) (λ j. le_prop {n = suc (f j)} {m = 2 ^ 30}) a.small b.small i }

-- `==` on words is sameness: +0 and -0 differ
pub equal_words : (a b : Word) → Decides ((words.ghosts).eq a b) (a ≡ b)
equal_words a b = (
  λ h. let p = and_parts _ _ h in word_same a b (same_true the_type (search rules) _ _ p.0) (eqb-true _ _ p.1),
  λ e. subst (λ w. (words.ghosts).eq a w ≡ true) e (search (comparing, rules)),
)

pub word_of_sign : (s : Sign) (m : ℕ) → (word_of s m).sign ≡ s
unfolding word_of
word_of_sign s m = refl

pub word_of_magnitude : (s : Sign) (m : ℕ) → (word_of s m).magnitude ≡ m % 2 ^ 30
unfolding word_of
word_of_magnitude s m = refl

pub word_of_same : (w : Word) → word_of w.sign w.magnitude ≡ w
unfolding word_of
word_of_same w = word_same _ w refl (mod-eq_of_lt w.small)

pub length_five : (m : ℕ) → length (unpacked 5 m) ≡ 5
length_five m = length_unpacked 5 m

pub small_five : (m : ℕ) → m < 2 ^ 30 → packed (unpacked 5 m) ≡ m
small_five m h = packed_unpacked 5 m ∙ mod-eq_of_lt h

pub five_rest : (m : ℕ) → unpacked 5 (m % 2 ^ 30) ≡ unpacked 5 m
five_rest m = unpacked_rest 5 m

-- the five bytes of a number, written out
abbrev pub five : ℕ → List ℕ
five m = (m / 16777216 % 64) ∷ (m / 262144 % 64) ∷ (m / 4096 % 64) ∷ (m / 64 % 64) ∷ (m % 64) ∷ []

pub five_written : (m : ℕ) → unpacked 5 m ≡ five m
unfolding unpacked
five_written m = rw div-one refl

-- a word to its bytes and back; the bytes may be written out
pub from_bytes_of : (w : Word) → word_from w.sign (bytes_of w) ≡ w
from_bytes_of w = ap (word_of w.sign) (small_five w.magnitude w.small) ∙ word_of_same w

pub written_back : (w : Word) → word_from w.sign (five w.magnitude) ≡ w
written_back w = ap (word_from w.sign) (sym (five_written w.magnitude)) ∙ from_bytes_of w

-- bytes to a word and back
pub bytes_of_from : (s : Sign) (bs : List ℕ) → length bs ≡ 5 → are_bytes bs ≡ true → bytes_of (word_from s bs) ≡ bs
bytes_of_from s bs n p = ap (unpacked 5) (word_of_magnitude s (packed bs)) ∙ five_rest (packed bs) ∙ unpacked_at 5 bs n p
