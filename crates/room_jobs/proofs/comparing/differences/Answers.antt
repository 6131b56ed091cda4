use Rattle.std.proofs.Common.{◌≡◌, List, ℕ, [], ◌++◌, ◌⊎◌, inl, inr, sym, ap, subst, ◌∙◌}
use Rattle.std.specs.List.{flat_map}
use Rattle.room_jobs.specs.Differences.{lines_of, marked}
use Rattle.room_jobs.proofs.Differing.{ended, left, same_texts}
use Rattle.room_jobs.proofs.comparing.differences.Goals.{then-loop-out-test+else-not-is_empty, else-loop-out-test}
use Rattle.room_jobs.proofs.comparing.differences.Goals as goal

pub returns-clause-text : goal.returns-clause-text
returns-clause-text c =
    let a = c.loop-out.ours.now in
    let b = c.loop-out.theirs.now in
    let ended : (a ≡ []) ⊎ (b ≡ []) = elim c.loop-out-test.branch [ then-loop-out-test+else-not-is_empty w ↦ inr (ended b w.if-not-is_empty.ensures) | else-loop-out-test w ↦ inl (ended a w.loop-out-test.ensures) ] in
    c.in_ok-add_all_marked-2.ensures
    ∙ ap (λ (l : List ℕ). l ++ flat_map (marked 62) (lines_of b)) c.in_ok-add_all_marked.ensures
    ∙ left c.loop-out.out.items a b ended
    ∙ c.loop-out.invariant

pub returns-clause-same : goal.returns-clause-same
returns-clause-same c =
    let a = c.args.first.now in
    let b = c.args.second.now in
    subst (λ (l : List ℕ). (l ≡ [] → a ≡ b) × (a ≡ b → l ≡ [])) (sym (returns-clause-text c)) (same_texts a b)
