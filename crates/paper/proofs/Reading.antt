-- One card more is read.
use Rattle.std.proofs.Common.{◌≡◌, ℕ, zero, suc, ◌+◌, ◌<◌, Bool, true, false, cond, eqb, List, [], ◌∷◌, map, drop, length, Some, None, Err, Option, refl, ap, sym, ◌∙◌, arith, length-drop}
use Rattle.std.proofs.lemmas.List.{drop-drop}
use Rattle.std.specs.Prelude.{slice_get}
use Rattle.std.proofs.lemmas.Bool.{eqb-true}
use Rattle.card.specs.Text.{card_of}
use Rattle.rack.specs.Units.{Holding, kind_of, text_of_kind, text_of_unit}
use Rattle.rack.specs.declared.kind.Kind.{Kind}
use Rattle.rack.specs.declared.kind.Kind.TheVariants.{Reader}
use Rattle.rack.specs.declared.fault.UnitFault.{UnitFault}
use Rattle.rack.specs.declared.fault.UnitFault.TheVariants.{NotAllowed}
use Rattle.rack.specs.declared.unit.Unit.{Unit}
use Rattle.rack.specs.Transfers.{After, block_in, on_unit, put_on, put_to, shift_of, shift_on}
use Rattle.word.specs.declared.word.Word.{Word}
use Rattle.paper.specs.Reader.{alone}
use Rattle.paper.proofs.Alone.{of_kind, rejected}

-- the block that stands next
pub next_block : (xs : List (List ℕ)) (p : ℕ) (c : List ℕ) (cs : List (List ℕ)) → drop p xs ≡ c ∷ cs → slice_get (map card_of xs) p ≡ Some (card_of c)
next_block [] zero c cs e = cc
next_block [] (suc p) c cs e = cc
next_block (x ∷ xs) zero c cs e = let f : x ≡ c = cc in ap (λ (l : List ℕ). Some (card_of l)) f
next_block (x ∷ xs) (suc p) c cs e = next_block xs p c cs e

pub no_block : (xs : List (List ℕ)) (p : ℕ) → drop p xs ≡ [] → slice_get (map card_of xs) p ≡ None
no_block [] zero e = refl
no_block [] (suc p) e = refl
no_block (x ∷ xs) zero e = cc
no_block (x ∷ xs) (suc p) e = no_block xs p e

-- the cards after it
pub next_cards : (xs : List (List ℕ)) (p : ℕ) (c : List ℕ) (cs : List (List ℕ)) → drop p xs ≡ c ∷ cs → cs ≡ drop (p + 1) xs
next_cards xs p c cs e = sym (ap (drop 1) e) ∙ drop-drop 1 p xs

-- there is one, so the position is below the count
pub below_count : (xs : List (List ℕ)) (p : ℕ) (c : List ℕ) (cs : List (List ℕ)) → drop p xs ≡ c ∷ cs → p < length xs
below_count xs p c cs e = omega (arith, ap length e, length-drop p xs)

-- a reader has no text
pub no_text : (v : ℕ) (o : Option Holding) (p : ℕ) → text_of_unit v (alone 16 o v) p ≡ []
no_text v o p = at (eqb v 16) refl o
  where
    at : (t : Bool) → eqb v 16 ≡ t → (q : Option Holding) → text_of_unit v (cond t q None) p ≡ []
    at false n q = refl
    at true n None = refl
    at true n (Some h) = ap (λ (j : Option Kind). text_of_kind j h p) (ap kind_of (eqb-true v 16 n))

-- nor does it allow a Put or a Shift
pub no_put : (v : Unit) (a : ℕ) (ws : List Word) (o : Option Holding) (x : UnitFault) → Err x ≡ on_unit v (λ k h. Err (NotAllowed v)) (alone 16 o v.number) → After v (put_to v a ws (alone 16 o v.number)) (alone 16 o) (alone 16 o) (Err x)
unfolding put_to
no_put v a ws o x e = rejected v _ x (alone 16 o) (of_kind 16 Reader v (λ k. put_on v a (block_in ws k) k) (λ h. Err (NotAllowed v)) o refl (λ h. refl) ∙ sym e)

pub no_shift : (v : Unit) (m : Word) (o : Option Holding) (x : UnitFault) → Err x ≡ on_unit v (λ k h. Err (NotAllowed v)) (alone 16 o v.number) → After v (shift_of v m (alone 16 o v.number)) (alone 16 o) (alone 16 o) (Err x)
unfolding shift_of
no_shift v m o x e = rejected v _ x (alone 16 o) (of_kind 16 Reader v (shift_on v m) (λ h. Err (NotAllowed v)) o refl (λ h. refl) ∙ sym e)
