use Rattle.cpu.proofs.processor.Processor.store_zero.Goals as goal

pub returns : goal.returns
returns c = rw (← c.wrapping.ensures.word) c.store_word.ensures
