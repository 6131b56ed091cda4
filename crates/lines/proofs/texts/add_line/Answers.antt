use Rattle.std.proofs.Common.{rules}
use Rattle.std.proofs.lemmas.List.{take_at, take_all, append_assoc}
use Rattle.lines.proofs.texts.add_line.Goals as goal

pub returns-in-err-extend_from_slice : goal.returns-in-err-extend_from_slice
returns-in-err-extend_from_slice c = search (rules, take_all)

pub returns-in-err-extend_from_slice-2 : goal.returns-in-err-extend_from_slice-2
returns-in-err-extend_from_slice-2 c = search (rules, take_at)

pub returns-in-err-push : goal.returns-in-err-push
returns-in-err-push c = search (rules, take_at, append_assoc)

pub returns : goal.returns
returns c = search (rules, take_at, append_assoc)
