use Rattle.std.proofs.Common.{Ok, refl}
use Rattle.word.specs.declared.sign.Sign.TheVariants.{Plus}
use Rattle.word.specs.Word.{word_of}
use Rattle.cpu.proofs.Indices.{index_found}
use Rattle.machine.proofs.runs.no_index.Goals as goal

pub returns : goal.returns
unfolding word_of
returns c = index_found (word_of Plus 0) (Ok _) (refl, refl)
