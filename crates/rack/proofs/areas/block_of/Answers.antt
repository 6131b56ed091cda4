use Rattle.std.proofs.Common.{arith}
use Rattle.word.specs.declared.sign.Sign.TheVariants.{Plus}
use Rattle.word.specs.Word.{word_of}
use Rattle.rack.proofs.Fronts.{front_over}
use Rattle.rack.proofs.areas.block_of.Goals as goal

pub returns : goal.returns
returns g c =
    rw (c.copy_from_slice.ensures.after, c.wrapping-block.ensures.word)
    (front_over c.args.area.now (word_of Plus 0) g.row.K g.row.K c.min-count.result (omega arith) (omega arith))
