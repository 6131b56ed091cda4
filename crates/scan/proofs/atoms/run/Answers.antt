use Rattle.std.proofs.Common.{◌≡◌, ℕ, ◌∷◌, suc, ◌+◌, cond, Bool, true, false, refl, ap, sym, ◌∙◌, arith, rules}
use Rattle.std.proofs.lemmas.Iterator.{YieldsList-from_slice, IsFirst-from_position, index_from_first}
use borrow.Author.Tests.{tests}
use Rattle.scan.specs.Symbols.{is_mark}
use Rattle.scan.specs.Atoms.{run_of}
use Rattle.scan.proofs.atoms.run.Goals as goal

-- a byte that is no letter or digit ends the run, and any other is passed over
ends : (b : ℕ) (bs : _) → is_mark b ≡ false → run_of (b ∷ bs) ≡ 0
ends b bs e = ap (λ (t : Bool). cond t (suc (run_of bs)) 0) e

goes_on : (b : ℕ) (bs : _) → is_mark b ≡ true → run_of (b ∷ bs) ≡ run_of bs + 1
goes_on b bs e = ap (λ (t : Bool). cond t (suc (run_of bs)) 0) e ∙ omega arith

pub returns-clause-value : goal.returns-clause-value
returns-clause-value c =
    let other = λ (b : ℕ). is_mark b ≡ false in
    let mark = λ (b : ℕ). is_mark b ≡ true in
    let first = IsFirst-from_position _ _ c.position.result other mark c.position.ensures.ran (YieldsList-from_slice c.args.text.now cc) (λ x q k. search (rules, tests)) (λ x q k. search (rules, tests)) in
    c.unwrap_or.ensures ∙ sym (index_from_first run_of other mark refl ends goes_on c.args.text.now c.position.result first)
