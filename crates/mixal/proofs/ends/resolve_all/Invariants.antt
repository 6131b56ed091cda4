use Rattle.std.proofs.Common.{◌≡◌, map, take, vec_items}
use Rattle.mixal.specs.Ends.{resolved}
use Rattle.symbols.specs.Symbols.{entries}
use Rattle.mixal.proofs.ends.resolve_all.Given as goal

abbrev pub invariant-loop-draft : goal.invariant-loop-draft
invariant-loop-draft l = vec_items l.lines ≡ map (resolved (entries l.symbols)) (take l.draft-index l.drafts)
