-- The parts of an address written out, there and back.
use Rattle.std.proofs.Common.{◌≡◌, ℕ, suc, ◌+◌, Bool, true, false, cond, eqb, List, [], ◌∷◌, ◌++◌, length, get_or, take, drop, IfSome, Some, None, Option, sym, refl, ap, ◌∙◌, arith, Bor}
use Rattle.std.proofs.lemmas.List.{take_all, take_more, take_at, drop_at, get_or_push, length_push, take-append-drop}
use Rattle.std.proofs.lemmas.Bool.{eqb-true, eq-eqb, ne_eqb}
use Rattle.std.specs.Option.{option_map}
use Rattle.card.specs.Lines.{up_to}
use Rattle.scan.specs.Cuts.{before, onward}
use Rattle.scan.specs.Address.{tail_of, closed_of, field_of, bracketed, comma_text, bracket_text, Lacks, Again}

-- a byte x and what follows it, if there is something
abbrev marked : ℕ → Option (List ℕ) → List ℕ
marked x None = []
marked x (Some bs) = x ∷ bs

comma_marked : (o : Option (List ℕ)) → comma_text o ≡ marked 44 o
comma_marked None = refl
comma_marked (Some bs) = refl

-- a text is what stands before x, and x with the rest
onward_marked : (x : ℕ) (bs : List ℕ) → onward x bs ≡ marked x (tail_of (onward x bs))
onward_marked x [] = refl
onward_marked x (b ∷ bs) = at (eqb b x) refl (onward_marked x bs)
  where
    at : (t : Bool) → eqb b x ≡ t → onward x bs ≡ marked x (tail_of (onward x bs)) → drop (cond t 0 (suc (up_to x bs))) (b ∷ bs) ≡ marked x (tail_of (drop (cond t 0 (suc (up_to x bs))) (b ∷ bs)))
    at true e h = ap (λ (c : ℕ). c ∷ bs) (eqb-true b x e)
    at false e h = h

both_marked : (x : ℕ) (bs : List ℕ) → before x bs ++ marked x (tail_of (onward x bs)) ≡ bs
both_marked x bs = ap (λ (l : List ℕ). before x bs ++ l) (sym (onward_marked x bs)) ∙ take-append-drop (up_to x bs) bs

pub comma_back : (bs cs : List ℕ) (o : Option (List ℕ)) → cs ≡ before 44 bs → o ≡ tail_of (onward 44 bs) → cs ++ comma_text o ≡ bs
comma_back bs cs o e f =
    ap (λ (l : List ℕ). l ++ comma_text o) e ∙ ap (λ (p : Option (List ℕ)). before 44 bs ++ comma_text p) f
    ∙ ap (λ (l : List ℕ). before 44 bs ++ l) (comma_marked (tail_of (onward 44 bs))) ∙ both_marked 44 bs

-- a text that is closed is what stands before the bracket, and the bracket
closed_back : (bs cs : List ℕ) → closed_of bs ≡ Some cs → cs ++ 41 ∷ [] ≡ bs
closed_back [] cs e = let z : ◌≡◌ {A = ℕ} 0 1 = cc in absurd (omega arith)
closed_back (b ∷ bs) cs e = at (eqb (get_or (b ∷ bs) (length bs) 0) 41) refl e
  where
    at : (t : Bool) → eqb (get_or (b ∷ bs) (length bs) 0) 41 ≡ t → cond t (Some (take (length bs) (b ∷ bs))) None ≡ Some cs → cs ++ 41 ∷ [] ≡ b ∷ bs
    at false p f = let z : ◌≡◌ {A = ℕ} 0 1 = cc in absurd (omega arith)
    at true p f =
        let k : cs ≡ take (length bs) (b ∷ bs) = cc in
        ap (λ (l : List ℕ). l ++ 41 ∷ []) k ∙ ap (λ (c : ℕ). take (length bs) (b ∷ bs) ++ c ∷ []) (sym (eqb-true (get_or (b ∷ bs) (length bs) 0) 41 p))
        ∙ sym (take_more (b ∷ bs) (length bs) 0 (omega arith)) ∙ take_all (length bs + 1) (b ∷ bs) (omega arith)

field_back : (o : Option (List ℕ)) (f : Option (List ℕ)) → field_of (marked 40 o) ≡ Some f → bracket_text f ≡ marked 40 o
field_back None None e = refl
field_back None (Some g) e = let z : ◌≡◌ {A = ℕ} 0 1 = cc in absurd (omega arith)
field_back (Some bs) f e = at (closed_of bs) refl e
  where
    at : (p : Option (List ℕ)) → closed_of bs ≡ p → option_map Some p ≡ Some f → bracket_text f ≡ 40 ∷ bs
    at None q h = let z : ◌≡◌ {A = ℕ} 0 1 = cc in absurd (omega arith)
    at (Some g) q h = let k : f ≡ Some g = cc in ap bracket_text k ∙ ap (λ (l : List ℕ). 40 ∷ l) (closed_back bs g q)

pub bracket_back : (bs : List ℕ) (r : Option (Bor (List ℕ) × Option (Bor (List ℕ)))) → option_map (λ p. (p.0.now, option_map (λ x. x.now) p.1)) r ≡ bracketed bs → IfSome r (λ p. p.0.now ++ bracket_text (option_map (λ x. x.now) p.1) ≡ bs)
bracket_back bs None e = tt
bracket_back bs (Some p) e = at (field_of (onward 40 bs)) refl e
  where
    at : (o : Option (Option (List ℕ))) → field_of (onward 40 bs) ≡ o → ◌≡◌ {A = Option (List ℕ × Option (List ℕ))} (Some (p.0.now, option_map (λ x. x.now) p.1)) (option_map (λ f. (before 40 bs, f)) o) → p.0.now ++ bracket_text (option_map (λ x. x.now) p.1) ≡ bs
    at None q h = let z : ◌≡◌ {A = ℕ} 0 1 = cc in absurd (omega arith)
    at (Some f) q h =
        let j : ◌≡◌ {A = List ℕ × Option (List ℕ)} (p.0.now, option_map (λ x. x.now) p.1) (before 40 bs, f) = cc in
        let m = field_back (tail_of (onward 40 bs)) f (ap field_of (sym (onward_marked 40 bs)) ∙ q) in
        ap (λ (x : List ℕ × Option (List ℕ)). x.0 ++ bracket_text x.1) j ∙ ap (λ (l : List ℕ). before 40 bs ++ l) m ∙ both_marked 40 bs

-- what is written out is found again
up_to_marked : (x : ℕ) (bs : List ℕ) (o : Option (List ℕ)) → Lacks x bs → length bs ≡ up_to x (bs ++ marked x o)
up_to_marked x [] None h = refl
up_to_marked x [] (Some cs) h = sym (ap (λ (t : Bool). cond t 0 (suc (up_to x cs))) (eq-eqb x x refl))
up_to_marked x (b ∷ bs) o h = ap suc (up_to_marked x bs o h.1) ∙ sym (ap (λ (t : Bool). cond t 0 (suc (up_to x (bs ++ marked x o)))) (ne_eqb b x h.0))

before_marked : (x : ℕ) (bs : List ℕ) (o : Option (List ℕ)) → Lacks x bs → before x (bs ++ marked x o) ≡ bs
before_marked x bs o h = take_at bs (marked x o) (up_to x (bs ++ marked x o)) (up_to_marked x bs o h)

tail_marked : (x : ℕ) (bs : List ℕ) (o : Option (List ℕ)) → Lacks x bs → tail_of (onward x (bs ++ marked x o)) ≡ o
tail_marked x bs o h = ap tail_of (drop_at bs (marked x o) (up_to x (bs ++ marked x o)) (up_to_marked x bs o h)) ∙ at o
  where
    at : (o : Option (List ℕ)) → tail_of (marked x o) ≡ o
    at None = refl
    at (Some cs) = refl

closed_again : (bs : List ℕ) → closed_of (bs ++ 41 ∷ []) ≡ Some bs
closed_again [] = refl
closed_again (b ∷ bs) =
    let n = length (bs ++ 41 ∷ []) in
    let e : length (b ∷ bs) ≡ n = omega (arith, length_push bs 41) in
    ap (λ (t : Bool). cond t (Some (take n (b ∷ (bs ++ 41 ∷ [])))) None) (eq-eqb _ 41 (get_or_push (b ∷ bs) 41 0 n e)) ∙ ap Some (take_at (b ∷ bs) (41 ∷ []) n e)

-- a field's brackets as a marked text
abbrev inner : Option (List ℕ) → Option (List ℕ)
inner f = option_map (λ g. g ++ 41 ∷ []) f

bracket_marked : (f : Option (List ℕ)) → bracket_text f ≡ marked 40 (inner f)
bracket_marked None = refl
bracket_marked (Some g) = refl

field_again : (f : Option (List ℕ)) → field_of (marked 40 (inner f)) ≡ Some f
field_again None = refl
field_again (Some g) = ap (option_map Some) (closed_again g)

bracket_again : (bs : List ℕ) (f : Option (List ℕ)) → Lacks 40 bs → bracketed (bs ++ bracket_text f) ≡ Some (bs, f)
bracket_again bs f h =
    ap (λ (l : List ℕ). bracketed (bs ++ l)) (bracket_marked f)
    ∙ ap (λ (l : List ℕ). option_map (λ g. (l, g)) (field_of (onward 40 (bs ++ marked 40 (inner f))))) (before_marked 40 bs (inner f) h)
    ∙ ap (λ (l : List ℕ). option_map (λ g. (bs, g)) (field_of l)) (drop_at bs (marked 40 (inner f)) _ (up_to_marked 40 bs (inner f) h))
    ∙ ap (option_map (λ g. (bs, g))) (field_again f)

pub again : Again
again a i f h k =
    ap (option_map (λ (p : List ℕ × Option (List ℕ)). (before 44 p.0, tail_of (onward 44 p.0), p.1))) (bracket_again (a ++ comma_text i) f k)
    ∙ ap (λ (l : List ℕ). Some (before 44 (a ++ l), tail_of (onward 44 (a ++ l)), f)) (comma_marked i)
    ∙ ap (λ (l : List ℕ). Some (l, tail_of (onward 44 (a ++ marked 44 i)), f)) (before_marked 44 a i h)
    ∙ ap (λ (o : Option (List ℕ)). Some (a, o, f)) (tail_marked 44 a i h)
