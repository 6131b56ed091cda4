use Rattle.cpu.proofs.processor.Processor.adjust.Goals as goal

pub returns-in-Increase : goal.returns-in-Increase
returns-in-Increase c = rw c.in-Increase.is c.increase.ensures

pub returns-in-Decrease : goal.returns-in-Decrease
returns-in-Decrease c = rw (c.in-Decrease.is, ← c.negated.ensures.word) c.increase-in-Decrease.ensures

pub returns-in-Enter : goal.returns-in-Enter
returns-in-Enter c = rw (c.in-Enter.is, ← c.enter.ensures.word) c.enter-in-Enter.ensures

pub returns-in-EnterNegative : goal.returns-in-EnterNegative
returns-in-EnterNegative c = rw (c.in-EnterNegative.is, ← c.enter_negative.ensures.word) c.enter-in-EnterNegative.ensures
