-- Words as five characters, and cards as sixteen words.
use Rattle.std.specs.Prelude.{◌≡◌, ℕ, zero, suc, ◌-◌, ◌<◌, Bool, true, cond, ◌&&◌, List, [], ◌∷◌, ◌++◌, map, length, take, drop, replicate, is_some, Some, None, Option, nat_le}
use Rattle.std.specs.Option.{option_map}
use Rattle.std.specs.List.{flat_map, AllByRecursion}
use Rattle.word.specs.declared.sign.Sign.TheVariants.{Plus}
use Rattle.word.specs.declared.word.Word.{Word}
use Rattle.word.specs.Word.{word_from, bytes_of}
use Rattle.card.specs.Table.{character_of, code_of}

-- one more before the others; none where any is none
abbrev pub both : {X : Type 0} → Option X → Option (List X) → Option (List X)
both None others = None
both (Some x) None = None
both (Some x) (Some xs) = Some (x ∷ xs)

-- the codes of a text; none where a byte has no code
abbrev pub text_codes : List ℕ → Option (List ℕ)
text_codes [] = Some []
text_codes (b ∷ bs) = both (code_of b) (text_codes bs)

-- n codes: those given, and zeros after them
abbrev pub filled : ℕ → List ℕ → List ℕ
filled n cs = cs ++ replicate (n - length cs) 0

-- the codes of n bytes at most, and zeros after them; none where a byte has no code, or there are more
abbrev pub codes_in : ℕ → List ℕ → Option (List ℕ)
codes_in n bs = cond (nat_le (length bs) n) (option_map (filled n) (text_codes bs)) None

-- the plus word of five characters
abbrev pub text_word : List ℕ → Option Word
text_word bs = option_map (word_from Plus) (text_codes bs)

-- the characters of a word's bytes; the sign is left out
abbrev pub word_text : Word → List ℕ
word_text w = map character_of (bytes_of w)

-- the first n words of a text, five characters to a word
unfoldable pub text_words : ℕ → List ℕ → Option (List Word)
text_words zero bs = Some []
text_words (suc n) bs = both (text_word (take 5 bs)) (text_words n (drop 5 bs))

-- the text of words, one after the other
abbrev pub words_text : List Word → List ℕ
words_text ws = flat_map word_text ws

-- a text with blanks after it, up to 80 columns
unfoldable pub padded : List ℕ → List ℕ
padded bs = bs ++ replicate (80 - length bs) 32

-- each byte has a code
abbrev pub all_coded : List ℕ → Bool
all_coded [] = true
all_coded (b ∷ bs) = is_some (code_of b) && all_coded bs

-- a card is sound, and not damaged: it has at most 80 bytes, each with a code
abbrev pub sound : List ℕ → Bool
sound bs = nat_le (length bs) 80 && all_coded bs

-- a card's sixteen words, blanks being added to its end; none where the card is damaged
abbrev pub card_of : List ℕ → Option (List Word)
card_of bs = cond (nat_le (length bs) 80) (text_words 16 (padded bs)) None

-- a word that text can hold: plus, with bytes up to 55
pub record Plain (w : Word) : Type 0 where
  pub plus : w.sign ≡ Plus
  pub bytes : AllByRecursion (λ b. b < 56) (bytes_of w)
