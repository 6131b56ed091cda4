-- Terms read one after the other: the text gets shorter, and the bound on their number never matters.
use Rattle.std.proofs.Common.{◌≡◌, ℕ, zero, suc, ◌<◌, ◌≤◌, Bool, true, false, cond, eqb, List, [], ◌∷◌, length, take, drop, is_some, Some, None, Option, sym, refl, ap, ◌∙◌, subst, arith, length-drop, Bor, MatchOption}
use Rattle.std.specs.Option.{option_map}
use Rattle.std.proofs.lemmas.List.{nil_from_length}
use Rattle.card.specs.Text.{both}
use Rattle.card.proofs.Codes.{some_both}
use Rattle.scan.specs.declared.terms.Operator.{Operator}
use Rattle.scan.specs.declared.terms.Operator.TheVariants.{Divide, Fraction}
use Rattle.scan.specs.declared.terms.Atom.{Atom}
use Rattle.scan.specs.declared.terms.Atom.TheVariants.{Here}
use Rattle.scan.specs.declared.terms.Term.{Term}
use Rattle.scan.specs.Symbols.{is_mark}
use Rattle.scan.specs.Atoms.{slash_of, operator_of, run_of, word_of, front_of, atom_of}
use Rattle.scan.specs.Terms.{with_atom, on_operator, on_term, next_of, further_of, more_of, Enough, Read}

-- what is left is shorter than n
abbrev pub Under : {X : Type 0} → ℕ → Option (X × List ℕ) → Type 0
Under n None = Unit {0}
Under n (Some p) = length p.1 < n

cond_under : {X : Type 0} (n : ℕ) (t : Bool) (p q : Option (X × List ℕ)) → Under n p → Under n q → Under n (cond t p q)
cond_under n true p q h k = h
cond_under n false p q h k = k

slash_under : (bs : List ℕ) → length (slash_of bs).1 ≤ length bs
slash_under [] = omega arith
slash_under (b ∷ bs) = at (eqb b 47)
  where
    at : (t : Bool) → length (cond {A = Operator × List ℕ} t (Fraction, bs) (Divide, b ∷ bs)).1 ≤ suc (length bs)
    at true = omega arith
    at false = omega arith

pub operator_under : (bs : List ℕ) → Under (length bs) (operator_of bs)
operator_under [] = tt
operator_under (b ∷ bs) =
    let n = suc (length bs) in
    let h : length bs < suc (length bs) = omega arith in
    cond_under n (eqb b 43) _ _ h (cond_under n (eqb b 45) _ _ h (cond_under n (eqb b 42) _ _ h (cond_under n (eqb b 47) _ _ (omega (arith, slash_under bs)) (cond_under n (eqb b 58) _ _ h tt))))

pub atom_under : (bs : List ℕ) → Under (length bs) (atom_of bs)
atom_under [] = tt
atom_under (b ∷ bs) = cond_under (suc (length bs)) (eqb b 42) (Some (Here, bs)) (front_of (b ∷ bs)) (omega arith) (at (is_mark b))
  where
    some : (n : ℕ) (o : Option Atom) → Under (suc (length bs)) (option_map (λ a. (a, drop n bs)) o)
    some n None = tt
    some n (Some a) = simp length-drop (omega arith)

    at : (t : Bool) → Under (suc (length bs)) (option_map (λ a. (a, drop (cond t (suc (run_of bs)) 0) (b ∷ bs))) (word_of (take (cond t (suc (run_of bs)) 0) (b ∷ bs))))
    at true = some (run_of bs) (word_of (b ∷ take (run_of bs) bs))
    at false = tt

with_under : (n : ℕ) (op : Operator) (o : Option (Atom × List ℕ)) → Under n o → Under n (with_atom op o)
with_under n op None h = tt
with_under n op (Some p) h = h

next_under : (bs : List ℕ) → Under (length bs) (next_of bs)
next_under bs = at (operator_of bs) (operator_under bs)
  where
    less : (m n : ℕ) (o : Option (Term × List ℕ)) → m < n → Under m o → Under n o
    less m n None h k = tt
    less m n (Some p) h k = omega arith

    at : (o : Option (Operator × List ℕ)) → Under (length bs) o → Under (length bs) (on_operator o)
    at None h = tt
    at (Some p) h = less (length p.1) (length bs) (with_atom p.0 (atom_of p.1)) h (with_under (length p.1) p.0 (atom_of p.1) (atom_under p.1))

-- two bounds that suffice give the same
on_same : (k l : List ℕ → Option (List Term)) (n : ℕ) (o : Option (Term × List ℕ)) → Under n o → ((cs : List ℕ) → length cs < n → k cs ≡ l cs) → on_term k o ≡ on_term l o
on_same k l n None h e = refl
on_same k l n (Some p) h e = ap (both (Some p.0)) (e p.1 h)

same_further : (n m : ℕ) (bs : List ℕ) → length bs ≤ n → length bs ≤ m → further_of n bs ≡ further_of m bs
same_further n m [] h k = refl
same_further zero m (b ∷ bs) h k = absurd (omega arith)
same_further (suc n) zero (b ∷ bs) h k = absurd (omega arith)
same_further (suc n) (suc m) (b ∷ bs) h k =
    on_same (further_of n) (further_of m) (suc (length bs)) (next_of (b ∷ bs)) (next_under (b ∷ bs)) (λ cs l. same_further n m cs (omega arith) (omega arith))

pub enough : Enough
enough n bs h = same_further n (length bs) bs h (omega arith)

-- the terms of a text are its first and those of the rest
pub more_step : (bs : List ℕ) → 0 < length bs → more_of bs ≡ on_term more_of (next_of bs)
more_step [] h = absurd (omega arith)
more_step (b ∷ bs) h =
    on_same (further_of (length bs)) more_of (suc (length bs)) (next_of (b ∷ bs)) (next_under (b ∷ bs)) (λ cs l. same_further (length bs) (length cs) cs (omega arith) (omega arith))

-- only the empty text has no terms, and nothing else
pub more_end : (bs : List ℕ) → length bs ≡ 0 → more_of bs ≡ Some []
more_end bs h = ap more_of (nil_from_length bs h)

pub read : (terms : Option (List Term)) (bs : List ℕ) (t : Term) (cs : List ℕ) → length cs < length bs → terms ≡ both (Some t) (more_of cs) → Read terms bs t cs
read terms bs t cs h e = record { shorter = h; terms_are = e; readable = ap is_some e ∙ some_both (Some t) (more_of cs) }

-- the terms of a text that begins with an operator are those of what follows it
pub further_read : (bs : List ℕ) (o : Operator) (cs : List ℕ) (r : Option (Term × Bor (List ℕ))) → Some (o, cs) ≡ operator_of bs
    → MatchOption r (on_term more_of (with_atom o (atom_of cs)) ≡ None) (λ p. Read (on_term more_of (with_atom o (atom_of cs))) cs p.0 p.1.now)
    → MatchOption r (0 < length bs → more_of bs ≡ None) (λ p. Read (more_of bs) bs p.0 p.1.now)
further_read bs o cs r e = at r
  where
    shorter : length cs < length bs
    shorter = subst (λ (p : Option (Operator × List ℕ)). Under (length bs) p) (sym e) (operator_under bs)

    same : more_of bs ≡ on_term more_of (with_atom o (atom_of cs))
    same = more_step bs (omega (arith, shorter)) ∙ ap (λ (p : Option (Operator × List ℕ)). on_term more_of (on_operator p)) (sym e)

    at : (r : Option (Term × Bor (List ℕ))) → MatchOption r (on_term more_of (with_atom o (atom_of cs)) ≡ None) (λ p. Read (on_term more_of (with_atom o (atom_of cs))) cs p.0 p.1.now) → MatchOption r (0 < length bs → more_of bs ≡ None) (λ p. Read (more_of bs) bs p.0 p.1.now)
    at None h = λ _. same ∙ h
    at (Some p) h = read (more_of bs) bs p.0 p.1.now (omega (arith, shorter)) (same ∙ h.terms_are)
