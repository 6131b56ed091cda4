-- The parts of an address: pieces between commas, and fields in round brackets.
use Rattle.std.specs.Prelude.{◌≡◌, ℕ, cond, List, [], ◌∷◌, ◌++◌, length, take, Some, None, Option, ◌==◌, ◌≢◌, slice_index}
use Rattle.std.specs.Option.{option_map}
use Rattle.std.specs.List.{AllByRecursion}
use Rattle.card.specs.Lines.{grown}
use Rattle.card.specs.Text.{both}
use Rattle.scan.specs.Cuts.{before, onward}

-- what follows a text's first byte, if it has one
abbrev pub tail_of : List ℕ → Option (List ℕ)
tail_of [] = None
tail_of (b ∷ bs) = Some bs

-- what stands before a closing bracket that is the last byte
abbrev pub closed_of : List ℕ → Option (List ℕ)
closed_of [] = None
closed_of (b ∷ bs) = cond (slice_index (b ∷ bs) (length bs) == 41) (Some (take (length bs) (b ∷ bs))) None

-- of a text that is empty or begins with an opening bracket: what the brackets hold, if there are any
abbrev pub field_of : List ℕ → Option (Option (List ℕ))
field_of [] = Some None
field_of (b ∷ bs) = option_map Some (closed_of bs)

-- what stands before the first opening bracket, and what the brackets hold, if there are any;
-- none where the bracket is not closed by the text's last byte
abbrev pub bracketed : List ℕ → Option (List ℕ × Option (List ℕ))
bracketed bs = option_map (λ f. (before 40 bs, f)) (field_of (onward 40 bs))

-- an instruction's A, its index after a comma, if it has one, and its F in brackets, if it has one
abbrev pub parts_of : List ℕ → Option (List ℕ × Option (List ℕ) × Option (List ℕ))
parts_of bs = option_map (λ p. (before 44 p.0, tail_of (onward 44 p.0), p.1)) (bracketed bs)

-- a comma and what follows it, if there is something
abbrev pub comma_text : Option (List ℕ) → List ℕ
comma_text None = []
comma_text (Some i) = 44 ∷ i

-- a field in its brackets, if there is one
abbrev pub bracket_text : Option (List ℕ) → List ℕ
bracket_text None = []
bracket_text (Some f) = 40 ∷ (f ++ 41 ∷ [])

-- no byte of a text is x
abbrev pub Lacks : ℕ → List ℕ → Type 0
Lacks x bs = AllByRecursion (λ b. b ≢ x) bs

-- parts that are written out are found again
abbrev pub Again : Type 0
Again = (a : List ℕ) (i f : Option (List ℕ)) → Lacks 44 a → Lacks 40 (a ++ comma_text i) → parts_of ((a ++ comma_text i) ++ bracket_text f) ≡ Some (a, i, f)

-- the texts between the bytes x; there is one at least
abbrev pub between : ℕ → List ℕ → List (List ℕ)
between x [] = [] ∷ []
between x (b ∷ bs) = cond (b == x) ([] ∷ between x bs) (grown b (between x bs))

-- each text taken apart at its brackets; none where the brackets of one do not fit
abbrev pub all_bracketed : List (List ℕ) → Option (List (List ℕ × Option (List ℕ)))
all_bracketed [] = Some []
all_bracketed (c ∷ cs) = both (bracketed c) (all_bracketed cs)

-- the pieces of a W-value, each with its field
abbrev pub pieces_of : List ℕ → Option (List (List ℕ × Option (List ℕ)))
pieces_of bs = all_bracketed (between 44 bs)

-- the pieces of what follows a comma, if there is one
abbrev pub later_of : Option (List ℕ) → Option (List (List ℕ × Option (List ℕ)))
later_of None = Some []
later_of (Some bs) = pieces_of bs
