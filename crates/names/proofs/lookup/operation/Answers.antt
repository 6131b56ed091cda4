use Rattle.std.proofs.Common.{◌≡◌, ◌∙◌, rules}
use Rattle.std.specs.Option.{option_map}
use Rattle.std.specs.Result.{result_ok}
use Rattle.std.proofs.lemmas.List.Sorted.{answers_always}
use Rattle.names.specs.Names.{table}
use Rattle.names.specs.Order.{key_of, ordered, line_at}
use Rattle.names.proofs.Found.{searched, fit}
use Rattle.names.proofs.lookup.operation.Goals as goal

-- the closure gives a name's number, and the lines of the table stand in that order
leads : goal.returns-clause-value
unfolding table ordered
leads c =
    let facts = c.binary_search_by_key.ensures in
    let by_key = facts.position (λ line. key_of line.0) (answers_always _ _ _ (λ f a r g called. search rules)) in
    let key = c.key-wanted.ensures in
    let e : c.map.result ≡ option_map (λ k. (line_at k).1) (result_ok c.binary_search_by_key.result) = search rules in
    e ∙ searched c.args.name key.columns _ facts.bound (rw (← key.value) by_key)

pub returns-clause-value : goal.returns-clause-value
returns-clause-value = leads

pub returns-clause-bytes : goal.returns-clause-bytes
returns-clause-bytes c = rw (leads c) (fit c.args.name)
