use Rattle.std.proofs.Common.{◌+◌, ◌<◌, ◌⊎◌, arith, inl, inr, ap, refl, sym, ◌∙◌}
use Rattle.cpu.specs.declared.fault.Fault.TheVariants.{Outside}
use Rattle.cpu.specs.Parts.{order_of}
use Rattle.cpu.specs.Programs.Outcome.{fails}
use Rattle.cpu.proofs.Moving.{move_out, move_done}
use Rattle.cpu.proofs.processor.Processor.move_words.Goals as goal
use Rattle.cpu.proofs.processor.Processor.move_words.Goals.{then-from-count-gt4000-via-then-from-count-gt4000, then-from-count-gt4000-via-else-from-count-gt4000+then-to-count-gt4000}

pub returns-then-from-count-gt4000 : goal.returns-then-from-count-gt4000
returns-then-from-count-gt4000 c = λ j.
    let out : (4000 < c.in_ok-from.from + c.args.count) ⊎ (4000 < c.in_ok-to.to + c.args.count) = elim c.then-from-count-gt4000.branch [
      | then-from-count-gt4000-via-then-from-count-gt4000 w ↦ inl (omega (arith, w.if-from-count-gt4000.true))
      | then-from-count-gt4000-via-else-from-count-gt4000+then-to-count-gt4000 w ↦ inr (omega (arith, w.if-to-count-gt4000.true))
    ] in (
      move_out (order_of c.args.self.now.registers c.args.command) _ _ _ _ (omega arith) c.in_ok-from.ensures.found (rw (← c.from.ensures.word) c.in_ok-to.ensures.found) c.in_ok-from.ensures.within c.in_ok-to.ensures.within out
          ∙ ap (λ w. fails (Outside w)) (sym c.wrapping.ensures.word),
      refl,
      refl,
    )

pub returns : goal.returns
returns c = λ j.
    move_done (order_of c.args.self.now.registers c.args.command) _ _ _ _ _ _ _ j _ _ c.from-count.ensures (omega arith) c.in_ok-from.ensures.found (rw (← c.from.ensures.word) c.in_ok-to.ensures.found) c.if-from-count-gt4000.false c.if-to-count-gt4000.false refl refl c.copy.ensures.registers c.copy.ensures.memory c.along-2.ensures
