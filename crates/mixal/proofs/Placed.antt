-- The words of a deck by location: each is that of the last line for its location.
use Rattle.std.proofs.Common.{◌≡◌, ℕ, Bool, true, false, cond, eqb, List, [], ◌∷◌, Some, None, Option, sym, refl, ap, ◌∙◌}
use Rattle.std.proofs.lemmas.Bool.{eqb-true}
use Rattle.std.specs.Option.{option_or}
use Rattle.table.proofs.Ordered.{lookup_put, lookup_other}
use Rattle.table.proofs.Orders.{location_order}
use Rattle.table.specs.Keys.{location_before, location_same}
use Rattle.table.specs.Pairs.{lookup, put}
use Rattle.table.specs.declared.location.Location.{Location}
use Rattle.word.specs.declared.word.Word.{Word}
use Rattle.mixal.specs.Image.{with_placed, image_from, image_of, word_at, last_at}
use Rattle.mixal.specs.declared.line.Line.{Line}

-- what is found at a location after one word was put
placed_at : (l : ℕ) (ps : List (Location × Word)) (o : Option (ℕ × Word)) → lookup location_same (with_placed ps o) (record { 0 = l }) ≡ option_or (word_at l o) (lookup location_same ps (record { 0 = l }))
placed_at l ps None = refl
placed_at l ps (Some p) = at (eqb p.0 l) refl
  where
    at : (b : Bool) → eqb p.0 l ≡ b → lookup location_same (put location_before location_same ps (record { 0 = p.0 }) p.1) (record { 0 = l }) ≡ option_or (cond b (Some p.1) None) (lookup location_same ps (record { 0 = l }))
    at true e =
        ap (λ (k : ℕ). lookup location_same (put location_before location_same ps (record { 0 = p.0 }) p.1) (record { 0 = k })) (sym (eqb-true p.0 l e))
        ∙ lookup_put location_order ps (record { 0 = p.0 }) p.1
    at false e = lookup_other location_order ps (record { 0 = p.0 }) (record { 0 = l }) p.1 e

either_on : (a b c : Option Word) → option_or a (option_or b c) ≡ option_or (option_or a b) c
either_on None b c = refl
either_on (Some v) b c = refl

either_none : (a : Option Word) → option_or a None ≡ a
either_none None = refl
either_none (Some v) = refl

looked_up_from : (l : ℕ) (ps : List (Location × Word)) (xs : List Line) → lookup location_same (image_from ps xs) (record { 0 = l }) ≡ option_or (last_at l xs) (lookup location_same ps (record { 0 = l }))
looked_up_from l ps [] = refl
looked_up_from l ps (x ∷ xs) =
    looked_up_from l (with_placed ps x.at) xs
    ∙ ap (option_or (last_at l xs)) (placed_at l ps x.at)
    ∙ either_on (last_at l xs) (word_at l x.at) (lookup location_same ps (record { 0 = l }))

-- what a look-up in the image answers is the word of the last line for the location
pub image_last : (l : ℕ) (ps : List (Location × Word)) (xs : List Line) (r : Option Word) → r ≡ lookup location_same ps (record { 0 = l }) → ps ≡ image_of xs → r ≡ last_at l xs
image_last l ps xs r h e =
    h
    ∙ ap (λ (qs : List (Location × Word)). lookup location_same qs (record { 0 = l })) e
    ∙ looked_up_from l [] xs
    ∙ either_none (last_at l xs)
