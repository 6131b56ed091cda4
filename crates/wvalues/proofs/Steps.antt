-- One piece further.
use Rattle.std.proofs.Common.{◌≡◌, ℕ, Bool, true, false, ◌||◌, List, Some, None, Option, sym, refl, ap}
use Rattle.card.specs.Text.{both}
use Rattle.std.proofs.lemmas.Bool.{both_ways, and_parts}
use Rattle.symbols.specs.declared.meaning.Meaning.{Meaning}
use Rattle.table.specs.declared.name.Name.{Name}
use Rattle.wvalues.specs.Pieces.{piece_readable, all_readable, pieces_readable, piece_undefined, any_undefined, pieces_undefined}

-- a readable list of pieces whose first names no unknown symbol: the others decide
pub undefined_more : (es : List (Name × Meaning)) (p : List ℕ × Option (List ℕ)) (m : Option (List (List ℕ × Option (List ℕ)))) → piece_undefined es p ≡ false → pieces_readable (both (Some p) m) ≡ true → (pieces_readable m ≡ true) × (pieces_undefined es m ≡ pieces_undefined es (both (Some p) m))
undefined_more es p None u h = absurd (both_ways false refl h)
undefined_more es p (Some ps) u h =
    ((and_parts (piece_readable p) (all_readable ps) h).1, sym (ap (λ (b : Bool). b || any_undefined es ps) u))
