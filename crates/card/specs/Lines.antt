-- Text as cards: the lines that byte 10 ends, and blanks at their ends.
use Rattle.std.specs.Prelude.{◌≡◌, ℕ, suc, ◌<◌, cond, ◌&&◌, List, [], ◌∷◌, length, take, drop, ◌==◌, ◌≢◌}
use Rattle.std.specs.List.{AllByRecursion}

-- a text without the blanks at its end
abbrev pub trimmed : List ℕ → List ℕ
trimmed [] = []
trimmed (b ∷ bs) = cond (b == 32 && length (trimmed bs) == 0) [] (b ∷ trimmed bs)

-- how many bytes stand before the first that is x
abbrev pub up_to : ℕ → List ℕ → ℕ
up_to x [] = 0
up_to x (b ∷ bs) = cond (b == x) 0 (suc (up_to x bs))

-- the first line of a text, without its byte 10
abbrev pub line_of : List ℕ → List ℕ
line_of bs = take (up_to 10 bs) bs

-- what follows the first line and its byte 10
abbrev pub rest_of : List ℕ → List ℕ
rest_of bs = drop (suc (up_to 10 bs)) bs

-- the first card with one more byte at its front
abbrev pub grown : ℕ → List (List ℕ) → List (List ℕ)
grown b [] = (b ∷ []) ∷ []
grown b (c ∷ cs) = (b ∷ c) ∷ cs

-- the cards of a text; what stands after the last byte 10 is a card unless it is empty
abbrev pub cards_of : List ℕ → List (List ℕ)
cards_of [] = []
cards_of (b ∷ bs) = cond (b == 10) ([] ∷ cards_of bs) (grown b (cards_of bs))

-- c is the first card of the text bs, and ds is the text of the others
pub record Split (bs c ds : List ℕ) : Type 0 where
  -- c is the first line, and ds what follows it
  pub line : c ≡ line_of bs
  pub after : ds ≡ rest_of bs
  -- the cards are c and those of ds
  pub cards : cards_of bs ≡ c ∷ cards_of ds
  -- the text gets shorter
  pub shorter : length ds < length bs
  -- no card holds a byte 10
  pub whole : AllByRecursion (λ b. b ≢ 10) c
