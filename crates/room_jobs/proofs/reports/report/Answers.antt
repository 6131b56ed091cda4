use Rattle.std.proofs.Common.{ℕ, drop, ap, ◌∙◌}
use Rattle.std.proofs.lemmas.Result.{IfOk-weaker}
use Rattle.card.specs.Lines.{cards_of}
use Rattle.mixal.specs.Assembled.{deck_of}
use Rattle.room_jobs.proofs.Rooms.{printed_from}
use Rattle.room_jobs.proofs.reports.report.Goals as goal

pub returns-in-Ok : goal.returns-in-Ok
returns-in-Ok c =
    let after = c.first_cards.ensures.others ∙ ap (λ (n : ℕ). drop n (cards_of c.args.input.now)) c.cards.ensures in
    IfOk-weaker c.job_rooms.result _ _ (λ v b. printed_from _ _ (deck_of c.args.input.now) c.in-Ok.deck c.args.input.now c.first_cards.result.1.now v.items c.in-Ok.ensures.answer after b) c.job_rooms.ensures
