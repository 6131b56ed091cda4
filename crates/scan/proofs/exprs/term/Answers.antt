use Rattle.std.proofs.Common.{ℕ, List, length, Option, sym, ap, subst}
use Rattle.scan.specs.declared.terms.Atom.{Atom}
use Rattle.scan.specs.Terms.{with_atom, on_term, more_of}
use Rattle.scan.proofs.Reading.{Under, atom_under, read}
use Rattle.scan.proofs.exprs.term.Goals as goal

pub returns : goal.returns
returns c =
    let e = c.in_ok-atom.ensures in
    let v = ap (with_atom c.args.op) e in
    record {
      value = v;
      terms = read _ c.args.text.now (record { op = c.args.op; atom = c.in_ok-atom.atom }) c.in_ok-atom.rest.now (subst (λ (o : Option (Atom × List ℕ)). Under (length c.args.text.now) o) (sym e) (atom_under c.args.text.now)) (ap (on_term more_of) (sym v));
    }
