use Rattle.std.proofs.Common.{◌∙◌, subst, arith}
use Rattle.std.specs.Option.{unwrap_or}
use Rattle.mixal.specs.Model.{assembled}
use Rattle.console.proofs.Loading.{Filled, filled_all, filled_more}
use Rattle.console.proofs.calls.memory.Goals as goal

pub loop-location-preserved : goal.loop-location-preserved
loop-location-preserved c =
    let l = c.loop-location in
    filled_more (assembled c.args.deck.now) l.memory l.location c.from.result c.unwrap_or.result c.from.ensures (omega arith) l.invariant
    (c.unwrap_or.ensures ∙ (λ i. unwrap_or (c.word.ensures i) (c.wrapping-zero.ensures.word i)))

pub returns : goal.returns
returns c =
    let l = c.loop-location in
    filled_all (assembled c.args.deck.now) l.memory (subst (Filled (assembled c.args.deck.now) l.memory) (omega arith) l.invariant)
