use Rattle.std.proofs.Common.{◌≡◌, Some, None, Ok, Err, MatchResult, subst, sym, arith}
use Rattle.std.proofs.lemmas.Grind.{common_steps}
use Rattle.room_jobs.proofs.Reading.{word_set}
use Rattle.room_jobs.proofs.arguments.read_word.Goals as goal

pub returns-in_default-decimal : goal.returns-in_default-decimal
returns-in_default-decimal c =
    word_set c.args.times.now.set c.args.word.now c.until-end.result (Some c.in-Some.unit) None c.until-end.ensures.value c.if-end-word.false
    (grind (arith, common_steps))
    (grind (arith, common_steps))

pub returns : goal.returns
returns c =
    let e = word_set c.args.times.now.set c.args.word.now c.until-end.result (Some c.in-Some.unit) (Some c.in-Some-decimal.time) c.until-end.ensures.value c.if-end-word.false
    (grind (arith, common_steps))
    (grind (arith, common_steps)) in
    subst (λ r. MatchResult c.set_time.result (λ _. r ≡ Ok c.set_time.new.times.set) (λ wrong. r ≡ Err wrong)) (sym e) c.set_time.ensures
