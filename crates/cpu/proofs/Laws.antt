-- The laws.
use Rattle.cpu.specs.Laws.{InstructionLaws}
use Rattle.cpu.proofs.Codes.{takes_all, takes_none, takes_some}
use Rattle.cpu.proofs.Framing.{alike, unwritten}
use Rattle.cpu.proofs.Numbers.{negative_law, parts_law, positive_law}
use Rattle.cpu.proofs.Timing.{timed_law}

pub instruction_laws : InstructionLaws
instruction_laws =
    record {
      each_code = takes_some;
      any_field = takes_all;
      no_code = takes_none;
      negative = negative_law;
      positive = positive_law;
      parts = parts_law;
      timed = timed_law;
      alike = alike;
      unwritten = unwritten;
    }
