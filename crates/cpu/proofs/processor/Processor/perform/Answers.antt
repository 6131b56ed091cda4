use Rattle.cpu.proofs.processor.Processor.perform.Goals as goal

pub returns-in-Nothing : goal.returns-in-Nothing
returns-in-Nothing c = rw c.in-Nothing.is (c.nothing.ensures c.args.j)

pub returns-in-Add : goal.returns-in-Add
returns-in-Add c = rw c.in-Add.is (c.add.ensures c.args.j)

pub returns-in-Subtract : goal.returns-in-Subtract
returns-in-Subtract c = rw c.in-Subtract.is (c.subtract.ensures c.args.j)

pub returns-in-Multiply : goal.returns-in-Multiply
returns-in-Multiply c = rw c.in-Multiply.is (c.multiply.ensures c.args.j)

pub returns-in-Divide : goal.returns-in-Divide
returns-in-Divide c = rw c.in-Divide.is (c.divide.ensures c.args.j)

pub returns-in-Halt : goal.returns-in-Halt
returns-in-Halt c = rw c.in-Halt.is (c.halt.ensures c.args.j)

pub returns-in-ShiftBytes : goal.returns-in-ShiftBytes
returns-in-ShiftBytes c = rw c.in-ShiftBytes.is (c.shift.ensures c.args.j)

pub returns-in-MoveWords : goal.returns-in-MoveWords
returns-in-MoveWords c = rw c.in-MoveWords.is (c.move_words.ensures c.args.j)

pub returns-in-Load : goal.returns-in-Load
returns-in-Load c = rw c.in-Load.is (c.load.ensures c.args.j)

pub returns-in-LoadNegative : goal.returns-in-LoadNegative
returns-in-LoadNegative c = rw c.in-LoadNegative.is (c.load_negative.ensures c.args.j)

pub returns-in-Store : goal.returns-in-Store
returns-in-Store c = rw c.in-Store.is (c.store.ensures c.args.j)

pub returns-in-StoreZero : goal.returns-in-StoreZero
returns-in-StoreZero c = rw c.in-StoreZero.is (c.store_zero.ensures c.args.j)

pub returns-in-JumpBusy : goal.returns-in-JumpBusy
returns-in-JumpBusy c = rw c.in-JumpBusy.is (c.jump_busy.ensures c.args.j)

pub returns-in-Control : goal.returns-in-Control
returns-in-Control c = rw c.in-Control.is (c.control.ensures c.args.j)

pub returns-in-Input : goal.returns-in-Input
returns-in-Input c = rw c.in-Input.is (c.input.ensures c.args.j)

pub returns-in-Output : goal.returns-in-Output
returns-in-Output c = rw c.in-Output.is (c.output.ensures c.args.j)

pub returns-in-JumpReady : goal.returns-in-JumpReady
returns-in-JumpReady c = rw c.in-JumpReady.is (c.jump_ready.ensures c.args.j)

pub returns-in-JumpIf : goal.returns-in-JumpIf
returns-in-JumpIf c = rw c.in-JumpIf.is (c.jump_if.ensures c.args.j)

pub returns-in-JumpOn : goal.returns-in-JumpOn
returns-in-JumpOn c = rw c.in-JumpOn.is (c.jump_on.ensures c.args.j)

pub returns-in-Adjust : goal.returns-in-Adjust
returns-in-Adjust c = rw c.in-Adjust.is (c.adjust.ensures c.args.j)

pub returns-in-Compare : goal.returns-in-Compare
returns-in-Compare c = rw c.in-Compare.is (c.compare.ensures c.args.j)
