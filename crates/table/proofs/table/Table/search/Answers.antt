use Rattle.std.proofs.Common.{rules}
use Rattle.std.proofs.lemmas.Fn.{always_returns_same}
use Rattle.table.specs.Order.{Order}
use Rattle.table.proofs.Ordered.{searched}
use Rattle.table.proofs.table.Table.search.Goals as goal

-- the closure compares a pair's key, and the slice is the table's pairs
pub returns : goal.returns
returns g c =
    let facts = c.binary_search_by.ensures in
    let by_key = facts.position (λ pair. g.K.Key.cmp pair.0 c.args.key.now) (always_returns_same _ _ _ (λ a r f called. search rules)) in
    let order : Order g.K.Key.cmp g.K.Key.same = record { total = g.met.K.Key.total; ties = g.met.K.Key.ties } in
    rw (← c.self.view_is, ← c.deref.ensures.value) (searched order _ (rw c.deref.ensures.value c.self.invariant) c.args.key.now _ facts.bound by_key)
