use Rattle.std.proofs.Common.{rules}
use Rattle.std.proofs.lemmas.List.{append_assoc}
use Rattle.std.proofs.lemmas.Result.{IfOk-equal}
use Rattle.sheet.proofs.words.add_registers.Goals as goal

pub returns : goal.returns
returns c = search (rules, IfOk-equal, append_assoc)
