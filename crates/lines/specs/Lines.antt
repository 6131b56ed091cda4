-- The lines of listings and sheets.
use Rattle.std.specs.Prelude.{ℕ, ◌+◌, ◌/◌, ◌%◌, List, [], ◌∷◌, ◌++◌, map, replicate, Some, None, Option}
use Rattle.card.specs.Lines.{trimmed}
use Rattle.card.specs.Table.{character_of}
use Rattle.word.specs.declared.sign.Sign.{Sign}
use Rattle.word.specs.declared.sign.Sign.TheVariants.{Plus, Minus}
use Rattle.word.specs.declared.word.Word.{Word}
use Rattle.word.specs.Word.{bytes_of}

-- a byte of a word by two digits
abbrev pub two_digits : ℕ → List ℕ
two_digits n = (48 + n / 10) ∷ (48 + n % 10) ∷ []

-- the last four digits of a number
unfoldable pub four_digits : ℕ → List ℕ
four_digits n = (48 + n / 1000 % 10) ∷ (48 + n / 100 % 10) ∷ (48 + n / 10 % 10) ∷ (48 + n % 10) ∷ []

-- a sign by its character
abbrev pub sign_text : Sign → ℕ
sign_text Plus = 43
sign_text Minus = 45

-- a blank and two digits for each byte
abbrev pub byte_texts : List ℕ → List ℕ
byte_texts [] = []
byte_texts (b ∷ bs) = 32 ∷ (two_digits b ++ byte_texts bs)

-- a word: its sign, and its bytes by two digits each
unfoldable pub word_digits : Word → List ℕ
word_digits w = sign_text w.sign ∷ byte_texts (bytes_of w)

-- the 23 columns before a card: the location and the word if there are any
unfoldable pub front : Option (ℕ × Word) → List ℕ
front None = replicate 23 32
front (Some p) = four_digits p.0 ++ (32 ∷ (word_digits p.1 ++ (32 ∷ 32 ∷ [])))

-- a line of a listing: location and word if any, then the card; blanks at the end go
abbrev pub listed : Option (ℕ × Word) → List ℕ → List ℕ
listed at card = trimmed (front at ++ card) ++ (10 ∷ [])

-- the line of a symbol: its name in ten columns, and its word
unfoldable pub symbol_line : List ℕ → Word → List ℕ
symbol_line codes w = 83 ∷ 32 ∷ (map character_of codes ++ (32 ∷ (word_digits w ++ (10 ∷ []))))

-- the line of a word in memory
abbrev pub memory_line : ℕ → Word → List ℕ
memory_line n w = four_digits n ++ (32 ∷ (word_digits w ++ (10 ∷ [])))
