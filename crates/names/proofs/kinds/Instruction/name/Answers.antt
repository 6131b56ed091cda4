use Rattle.std.proofs.Common.{◌≡◌, ◌∙◌, sym, ap, rules, tests}
use Rattle.std.specs.Option.{option_map}
use Rattle.std.proofs.lemmas.Iterator.{YieldsList-from_slice}
use Rattle.std.proofs.lemmas.Iterator.Search.{find_from_yields_List}
use Rattle.names.specs.Names.{table, known, name_of}
use Rattle.names.specs.Order.{ordered}
use Rattle.names.proofs.Found.{named}
use Rattle.names.proofs.kinds.Instruction.name.Goals as goal
use Rattle.names.proofs.kinds.Instruction.name.Goals.{After-find}

-- the closure tests a line, and the line that is found has the name
found : (c : After-find) → option_map (λ line. line.now.0) c.find.result ≡ name_of c.args.self.c c.args.self.f
unfolding table ordered
found c =
    named c.args.self.c c.args.self.f (λ line. line.now) c.find.result
    (find_from_yields_List (known c.args.self.c c.args.self.f) _ _ c.find.result c.find.ensures.ran (YieldsList-from_slice ordered c.iter.ensures.rest) (λ x b q k. search (rules, tests)))

pub returns-in_err-name-clause-value : goal.returns-in_err-name-clause-value
returns-in_err-name-clause-value c = c.from_residual.ensures ∙ ap (option_map (λ line. line.now.0)) (sym c.in_err-name.was) ∙ found (goal.at.returns-in_err-name-clause-value c).After-find

pub returns-clause-value : goal.returns-clause-value
returns-clause-value c = ap (option_map (λ line. line.now.0)) (sym c.in_ok-name.was) ∙ found (goal.at.returns-clause-value c).After-find
