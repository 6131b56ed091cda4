use Rattle.std.proofs.Common.{◌≡◌, ℕ, false, List, vec_items, Option, ap, ◌∙◌, subst}
use Rattle.mixal.specs.Ends.{supplied, at_end, ended}
use Rattle.mixal.specs.Model.{model_of, progress_of}
use Rattle.names.specs.declared.kinds.Operation.TheVariants.{End}
use Rattle.std.proofs.lemmas.Result.{err_from_is_err_and}
use Rattle.table.specs.declared.name.Name.{Name}
use Rattle.mixal.proofs.Ended.{gives}
use Rattle.mixal.proofs.Found.{late_alike}
use Rattle.mixal.proofs.assembly.Assembly.end.Goals as goal

pub returns-in_err-supply : goal.returns-in_err-supply
returns-in_err-supply c = let p = err_from_is_err_and c.from_residual.result c.from_residual.ensures.1 in rw (p.1, p.2) tt

pub returns : goal.returns
returns c =
    let s = model_of c.args.self in
    let card = c.args.card.now.text.now in
    let ns = vec_items c.args.self.awaited in
    let after = progress_of c.supply.new.self in
    let before = progress_of c.args.self.progress in
    let P : List Name → Type 0 = λ ms. after ms ≡ supplied c.loc.result ms (before ms) in
    let e : after ns ≡ at_end s card =
    subst P c.deref.ensures.value c.in_ok-supply.ensures ∙ ap (λ (l : Option Name). supplied l ns (before ns)) c.loc.ensures
    in
    gives s (after ns) card c.in_ok-finish.field-0 e (late_alike false card End c.scope.ensures.symbols c.scope.ensures.here c.in_default.ensures.good)
    (c.in_ok-finish.ensures ns ∙ ap (λ (n : ℕ). ended n (after ns) card) (c.len-cards.ensures ∙ c.args.self.progress.drafts.ok.0))
