use Rattle.std.proofs.Common.{Some, rules}
use Rattle.scan.proofs.Written.{bracket_back}
use Rattle.scan.proofs.pieces.at_bracket.Goals as goal

pub returns-clause-back : goal.returns-clause-back
returns-clause-back c = bracket_back c.args.text.now (Some (c.front.result, c.in_ok-field.field)) (search rules)
