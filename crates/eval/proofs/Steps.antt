-- One term further.
use Rattle.std.proofs.Common.{◌≡◌, ℕ, Bool, true, false, ◌||◌, List, is_some, Some, None, Option, sym, refl, ap, ◌∙◌}
use Rattle.card.specs.Text.{both}
use Rattle.eval.specs.Eval.{is_unknown, any_unknown, any_unknown_in}
use Rattle.scan.specs.Terms.{more_of, Read}
use Rattle.scan.specs.declared.terms.Term.{Term}
use Rattle.std.proofs.lemmas.Bool.{both_ways}
use Rattle.symbols.specs.declared.meaning.Meaning.{Meaning}
use Rattle.table.specs.declared.name.Name.{Name}

-- terms of which one is read and is not unknown: the others decide
pub unknown_rest : (es : List (Name × Meaning)) (o : Option (List Term)) (bs : List ℕ) (t : Term) (cs : List ℕ) → Read o bs t cs → is_some o ≡ true → false ≡ is_unknown es t.atom → any_unknown_in es (more_of cs) ≡ any_unknown_in es o
unknown_rest es o bs t cs r h k = rest (more_of cs) (sym r.readable ∙ h) ∙ sym (ap (any_unknown_in es) r.terms_are)
  where
    rest : (m : Option (List Term)) → is_some m ≡ true → any_unknown_in es m ≡ any_unknown_in es (both (Some t) m)
    rest None i = absurd (both_ways false refl i)
    rest (Some ts) i = ap (λ (b : Bool). b || any_unknown es ts) k
