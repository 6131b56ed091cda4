use Rattle.cpu.proofs.processor.Processor.jump_on.Goals as goal

pub returns : goal.returns
returns c = rw (← c.get.ensures, ← c.passes-taken.ensures) c.jump.ensures
