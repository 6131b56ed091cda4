use Rattle.std.proofs.Common.{◌≡◌, ◌++◌, vec_items}
use Rattle.cpu.specs.Executed.{cells}
use Rattle.sheet.specs.Sheet.{words_text}
use Rattle.sheet.proofs.words.add_memory.Given as goal

abbrev pub invariant-loop-location : goal.invariant-loop-location
invariant-loop-location l =
    vec_items l.out ≡ vec_items l.initial.out ++ words_text (cells l.memory) l.location
