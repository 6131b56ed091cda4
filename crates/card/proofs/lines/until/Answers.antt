use Rattle.std.proofs.Common.{◌≡◌, ℕ, ◌∷◌, suc, ◌+◌, cond, Bool, refl, ap, sym, ◌∙◌, arith, rules}
use Rattle.std.proofs.lemmas.Bool.{eq-eqb, ne_eqb}
use Rattle.std.proofs.lemmas.Iterator.{YieldsList-from_slice, IsFirst-from_position, index_from_first}
use borrow.Author.Tests.{tests}
use Rattle.card.specs.Lines.{up_to}
use Rattle.card.proofs.lines.until.Goals as goal

-- the byte itself is the first one, and any other is passed over
hit : (x b : ℕ) (bs : _) → b ≡ x → up_to x (b ∷ bs) ≡ 0
hit x b bs e = ap (λ (t : Bool). cond t 0 (suc (up_to x bs))) (eq-eqb b x e)

miss : (x b : ℕ) (bs : _) → (b ≡ x → ⊥) → up_to x (b ∷ bs) ≡ up_to x bs + 1
miss x b bs e = ap (λ (t : Bool). cond t 0 (suc (up_to x bs))) (ne_eqb b x e) ∙ omega arith

pub returns-clause-value : goal.returns-clause-value
returns-clause-value c =
    let here = λ (b : ℕ). b ≡ c.args.stop in
    let other = λ (b : ℕ). b ≡ c.args.stop → ⊥ in
    let first = IsFirst-from_position _ _ c.position.result here other c.position.ensures.ran (YieldsList-from_slice c.args.text.now cc) (λ x q k. search (rules, tests)) (λ x q k. search (rules, tests)) in
    c.unwrap_or.ensures ∙ sym (index_from_first (up_to c.args.stop) here other refl (hit c.args.stop) (miss c.args.stop) c.args.text.now c.position.result first)
