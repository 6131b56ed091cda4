use Rattle.std.proofs.Common.{Ok, Err, Option, Result, sym, ap, ◌∙◌, subst}
use Rattle.card.specs.Lines.{cards_of}
use Rattle.mixal.specs.Assembled.{read_from}
use Rattle.mixal.specs.Ends.{Assembled}
use Rattle.mixal.specs.Model.{model_of, Answers}
use Rattle.mixal.specs.Steps.{Steps}
use Rattle.mixal.specs.declared.cause.Rejection.{Rejection}
use Rattle.mixal.specs.declared.sound_card.SoundCard.{SoundCard}
use Rattle.std.proofs.lemmas.Result.{err_from_is_err_and}
use Rattle.mixal.proofs.Ended.{reads, taken, refused, empty_is_last}
use Rattle.mixal.proofs.reading.assemble.Goals as goal

pub returns-in-Some-2 : goal.returns-in-Some-2
returns-in-Some-2 c =
    let s = model_of c.loop-text.assembly in
    let t = model_of c.step.new.self in
    let card = c.in-Some.text.now in
    let last = c.is_empty.result in
    let P : Option SoundCard → Type 0 = λ o. Steps last s card t (Ok o) in
    let R : Result Assembled Rejection → Type 0 = λ v. Answers c.end.result v in
    let e = sym (ap (read_from s) c.in-Some.ensures.cards) ∙ c.loop-text.invariant in
    subst R e (reads last s t card (cards_of c.in-Some.next.now) c.in-Some-2.card c.end.result (c.is_empty.ensures ∙ empty_is_last c.in-Some.next.now) (subst P c.in-Some-2.is c.in_ok-card.ensures) c.end.ensures)

pub loop-text-preserved : goal.loop-text-preserved
loop-text-preserved c =
    let s = model_of c.loop-text.assembly in
    let t = model_of c.step.new.self in
    let card = c.in-Some.text.now in
    let P : Option SoundCard → Type 0 = λ o. Steps c.is_empty.result s card t (Ok o) in
    sym (taken c.is_empty.result s t card (cards_of c.in-Some.next.now) (c.is_empty.ensures ∙ empty_is_last c.in-Some.next.now) (subst P c.in_default-2.is c.in_ok-card.ensures))
    ∙ sym (ap (read_from s) c.in-Some.ensures.cards) ∙ c.loop-text.invariant

pub returns-in_err-card : goal.returns-in_err-card
returns-in_err-card c =
    let s = model_of c.loop-text.assembly in
    let t = model_of c.step.new.self in
    let card = c.in-Some.text.now in
    let p = err_from_is_err_and c.from_residual.result c.from_residual.ensures.1 in
    let e = sym (ap (read_from s) c.in-Some.ensures.cards) ∙ c.loop-text.invariant in
    let R : Result Assembled Rejection → Type 0 = λ v. Answers (Err c.in_err-card.field-0.0) v in
    rw (p.1, p.2) (subst R e (refused c.is_empty.result s t card (cards_of c.in-Some.next.now) c.in_err-card.field-0.0 (c.is_empty.ensures ∙ empty_is_last c.in-Some.next.now) c.in_err-card.ensures))
