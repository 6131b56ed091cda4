use Rattle.std.proofs.Common.{◌∙◌, ◌||◌, refl, rules}
use Rattle.std.specs.List.{list_any}
use Rattle.std.proofs.lemmas.List.Recursion.{same_from_clauses}
use Rattle.std.proofs.lemmas.Iterator.{YieldsList-from_slice}
use Rattle.std.proofs.lemmas.Iterator.Search.{any_from_yields_List}
use borrow.Author.Tests.{tests}
use Rattle.scan.specs.Symbols.{is_letter, any_letter}
use Rattle.scan.proofs.symbols.any_letter.Goals as goal

pub returns : goal.returns
returns c = any_from_yields_List is_letter _ _ c.any.result c.any.ensures.ran (YieldsList-from_slice c.args.text.now cc) (λ x b q k. search (rules, tests)) ∙ same_from_clauses (list_any is_letter) any_letter (λ b t. is_letter b || t) refl (λ _ _. refl) (λ _ _. refl) c.args.text.now
