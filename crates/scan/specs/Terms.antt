-- Expressions as terms: each atom with the operator before it.
use Rattle.std.specs.Prelude.{◌≡◌, ℕ, zero, suc, ◌<◌, ◌≤◌, List, [], ◌∷◌, length, is_some, Some, None, Option}
use Rattle.card.specs.Text.{both}
use Rattle.scan.specs.declared.terms.Operator.{Operator}
use Rattle.scan.specs.declared.terms.Atom.{Atom}
use Rattle.scan.specs.declared.terms.Term.{Term}
use Rattle.scan.specs.Atoms.{operator_of, sign_of, atom_of}

-- an operator with the atom after it, and what follows the atom
abbrev pub with_atom : Operator → Option (Atom × List ℕ) → Option (Term × List ℕ)
with_atom o None = None
with_atom o (Some p) = Some (record { op = o; atom = p.0 }, p.1)

-- the first term of a text: a sign, or none, and an atom
abbrev pub first_of : List ℕ → Option (Term × List ℕ)
first_of bs = with_atom (sign_of bs).0 (atom_of (sign_of bs).1)

-- an operator, if it is one, with the atom after it
abbrev pub on_operator : Option (Operator × List ℕ) → Option (Term × List ℕ)
on_operator None = None
on_operator (Some p) = with_atom p.0 (atom_of p.1)

-- a further term: an operator and an atom
abbrev pub next_of : List ℕ → Option (Term × List ℕ)
next_of bs = on_operator (operator_of bs)

-- a term before those that k finds in what follows it
abbrev pub on_term : (List ℕ → Option (List Term)) → Option (Term × List ℕ) → Option (List Term)
on_term k None = None
on_term k (Some p) = both (Some p.0) (k p.1)

-- the terms of a text that is nothing but further terms, n at most
abbrev pub further_of : ℕ → List ℕ → Option (List Term)
further_of n [] = Some []
further_of zero (b ∷ bs) = None
further_of (suc n) (b ∷ bs) = on_term (λ cs. further_of n cs) (next_of (b ∷ bs))

-- the same, as many as there are: no text has more terms than bytes
abbrev pub more_of : List ℕ → Option (List Term)
more_of bs = further_of (length bs) bs

-- the bound cuts no text short: any that is not below the length gives the same
abbrev pub Enough : Type 0
Enough = (n : ℕ) (bs : List ℕ) → length bs ≤ n → further_of n bs ≡ more_of bs

-- the terms of an expression; none where the text is no expression
abbrev pub terms_of : List ℕ → Option (List Term)
terms_of bs = on_term more_of (first_of bs)

-- a text's terms are t and those of the shorter text cs
pub record Read (terms : Option (List Term)) (bs : List ℕ) (t : Term) (cs : List ℕ) : Type 0 where
  pub shorter : length cs < length bs
  pub terms_are : terms ≡ both (Some t) (more_of cs)
  -- so there are terms where cs has them
  pub readable : is_some terms ≡ is_some (more_of cs)
