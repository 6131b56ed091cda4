-- A text cut at its first comma.
use Rattle.std.proofs.Common.{◌≡◌, ℕ, suc, ◌<◌, ◌≤◌, Bool, true, false, cond, eqb, List, [], ◌∷◌, length, take, drop, IfSome, Some, None, Option, sym, refl, ap, ◌∙◌, arith, length-drop, Bor}
use Rattle.std.specs.Option.{option_map}
use Rattle.card.specs.Lines.{up_to, grown}
use Rattle.card.specs.Text.{both}
use Rattle.scan.specs.Cuts.{before, onward}
use Rattle.scan.specs.Address.{tail_of, bracketed, between, all_bracketed, pieces_of, later_of}

-- the texts after the first
abbrev others : ℕ → Option (List ℕ) → List (List ℕ)
others x None = []
others x (Some bs) = between x bs

cut_first : (x : ℕ) (bs : List ℕ) → between x bs ≡ before x bs ∷ others x (tail_of (onward x bs))
cut_first x [] = refl
cut_first x (b ∷ bs) = at (eqb b x) (cut_first x bs)
  where
    at : (t : Bool) → between x bs ≡ before x bs ∷ others x (tail_of (onward x bs)) → cond t ([] ∷ between x bs) (grown b (between x bs)) ≡ take (cond t 0 (suc (up_to x bs))) (b ∷ bs) ∷ others x (tail_of (drop (cond t 0 (suc (up_to x bs))) (b ∷ bs)))
    at true e = refl
    at false e = ap (grown b) e

-- the pieces are the first and the later ones
pub pieces_cut : (bs : List ℕ) → pieces_of bs ≡ both (bracketed (before 44 bs)) (later_of (tail_of (onward 44 bs)))
pieces_cut bs = ap all_bracketed (cut_first 44 bs) ∙ ap (both (bracketed (before 44 bs))) (at (tail_of (onward 44 bs)))
  where
    at : (o : Option (List ℕ)) → all_bracketed (others 44 o) ≡ later_of o
    at None = refl
    at (Some cs) = refl

pub pieces_read : (bs cs : List ℕ) (o : Option (List ℕ)) → cs ≡ before 44 bs → o ≡ tail_of (onward 44 bs) → pieces_of bs ≡ both (bracketed cs) (later_of o)
pieces_read bs cs o e f = pieces_cut bs ∙ ap (λ (l : List ℕ). both (bracketed l) (later_of (tail_of (onward 44 bs)))) (sym e) ∙ ap (λ (p : Option (List ℕ)). both (bracketed cs) (later_of p)) (sym f)

-- what follows the comma is shorter
pub rest_shorter : (n : ℕ) (bs : List ℕ) (r : Option (Bor (List ℕ))) → option_map (λ x. x.now) r ≡ tail_of (drop n bs) → IfSome r (λ cs. length cs.now < length bs)
rest_shorter n bs None e = tt
rest_shorter n bs (Some cs) e = at (drop n bs) (simp length-drop (omega arith)) e
  where
    at : (l : List ℕ) → length l ≤ length bs → Some cs.now ≡ tail_of l → length cs.now < length bs
    at [] h f = let z : ◌≡◌ {A = ℕ} 0 1 = cc in absurd (omega arith)
    at (b ∷ l) h f = let k : cs.now ≡ l = cc in omega (arith, ap length k)
