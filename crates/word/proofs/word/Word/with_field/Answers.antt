use Rattle.std.proofs.Common.{rules}
use Rattle.word.proofs.Wholes.{whole_law}
use Rattle.word.proofs.word.Word.with_field.Goals as goal

pub returns-then-is_whole-clause-bytes : goal.returns-then-is_whole-clause-bytes
returns-then-is_whole-clause-bytes c = whole_law c.args.field (search rules) c.args.self c.args.register
