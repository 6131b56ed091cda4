use Rattle.std.proofs.Common.{◌≡◌}
use Rattle.cpu.specs.Executed.{cells}
use Rattle.cpu.specs.Parts.{copied}
use Rattle.cpu.proofs.processor.Processor.copy.Given as goal

abbrev pub invariant-loop-i : goal.invariant-loop-i
invariant-loop-i l = (cells l.self.memory ≡ copied l.i l.from l.to (cells l.initial.self.memory)) × (l.self.registers ≡ l.initial.self.registers)
