-- A rack with one unit.
use Rattle.std.proofs.Common.{◌≡◌, ℕ, Bool, true, false, cond, eqb, Some, None, Ok, Err, Option, refl, sym, ap, subst, ◌∙◌}
use Rattle.std.proofs.lemmas.Bool.{eq-eqb, ne_eqb, eqb-true}
use Rattle.rack.specs.Transfers.{Effect, Answer, After, on_kind, on_unit, updated}
use Rattle.rack.specs.Units.{Holding, Holdings, kind_of}
use Rattle.rack.specs.declared.fault.UnitFault.{UnitFault}
use Rattle.rack.specs.declared.kind.Kind.{Kind}
use Rattle.rack.specs.declared.unit.Unit.{Unit}
use Rattle.paper.specs.Reader.{alone}

-- the unit itself, and any other
pub alone_here : (u v : ℕ) (h : Option Holding) → v ≡ u → alone u h v ≡ h
alone_here u v h e = ap (λ (t : Bool). cond t h None) (eq-eqb v u e)

pub alone_absent : (u v : ℕ) (h : Option Holding) → (v ≡ u → ⊥) → alone u h v ≡ None
alone_absent u v h n = ap (λ (t : Bool). cond t h None) (ne_eqb v u n)

-- the unit alters
alters : (t : Bool) (g h : Option Holding) → cond t h None ≡ cond t h (cond t g None)
alters true g h = refl
alters false g h = refl

pub alone_updated : (u v : ℕ) (g h : Option Holding) → v ≡ u → alone u h ≡ updated (alone u g) v h
unfolding updated
alone_updated u v g h e = (λ i w. alters (eqb w u) g h i) ∙ ap (λ (x : ℕ). updated (alone u g) x h) (sym e)

-- what is tried on the one unit depends on what its kind does
pub of_kind : (u : ℕ) (k : Kind) (v : Unit) (f : Kind → Holding → Answer) (g : Holding → Answer) (o : Option Holding) → kind_of u ≡ Some k → ((h : Holding) → f k h ≡ g h) → on_unit v f (alone u o v.number) ≡ on_unit v (λ _. g) (alone u o v.number)
of_kind u k v f g o e same = at (eqb v.number u) refl o
  where
    at : (t : Bool) → eqb v.number u ≡ t → (p : Option Holding) → on_unit v f (cond t p None) ≡ on_unit v (λ _. g) (cond t p None)
    at false n p = refl
    at true n None = refl
    at true n (Some h) =
        let j : kind_of v.number ≡ Some k = ap kind_of (eqb-true v.number u n) ∙ e in
        ap (on_kind v f h) j ∙ same h ∙ sym (ap (on_kind v (λ _. g) h) j)

-- a rejection leaves all as it was
pub rejected : (v : Unit) (a : Answer) (f : UnitFault) (g : Holdings) → a ≡ Err f → After v a g g (Err f)
rejected v a f g e = subst (λ (b : Answer). After v b g g (Err f)) (sym e) (refl, refl)

-- what is done alters the one unit
pub done : (u : ℕ) (v : Unit) (f : Kind → Holding → Answer) (e : Effect) (o : Option Holding) → on_unit v f (alone u o v.number) ≡ Ok e → After v (on_unit v f (alone u o v.number)) (alone u o) (alone u (Some e.holding)) (Ok tt)
done u v f e o p = subst (λ (b : Answer). After v b (alone u o) (alone u (Some e.holding)) (Ok tt)) (sym p) (at (eqb v.number u) refl p)
  where
    at : (t : Bool) → eqb v.number u ≡ t → on_unit v f (cond t o None) ≡ Ok e → alone u (Some e.holding) ≡ updated (alone u o) v.number (Some e.holding)
    at false n q = cc
    at true n q = alone_updated u v.number o (Some e.holding) (eqb-true v.number u n)
