use Rattle.std.proofs.Common.{◌∙◌, ◌&&◌, refl, rules}
use Rattle.std.specs.List.{list_all}
use Rattle.std.proofs.lemmas.List.Recursion.{same_from_clauses}
use Rattle.std.proofs.lemmas.Iterator.{YieldsList-from_slice}
use Rattle.std.proofs.lemmas.Iterator.Search.{all_from_yields_List}
use borrow.Author.Tests.{tests}
use Rattle.scan.specs.Symbols.{is_mark, all_marks}
use Rattle.scan.proofs.symbols.all_marks.Goals as goal

pub returns : goal.returns
returns c = all_from_yields_List is_mark _ _ c.all.result c.all.ensures.ran (YieldsList-from_slice c.args.text.now cc) (λ x b q k. search (rules, tests)) ∙ same_from_clauses (list_all is_mark) all_marks (λ b t. is_mark b && t) refl (λ _ _. refl) (λ _ _. refl) c.args.text.now
