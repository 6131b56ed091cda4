use Rattle.cpu.proofs.processor.Processor.store.Goals as goal

pub returns : goal.returns
returns c = rw (← c.get-word.ensures) c.store_word.ensures
