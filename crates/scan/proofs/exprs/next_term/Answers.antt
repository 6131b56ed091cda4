use Rattle.std.proofs.Common.{rules}
use Rattle.scan.proofs.Reading.{further_read}
use Rattle.scan.proofs.exprs.next_term.Goals as goal

pub returns-clause-terms : goal.returns-clause-terms
returns-clause-terms c = further_read c.args.text.now c.in_ok-op.op c.in_ok-op.rest.now c.term.result (search rules) c.term.ensures.terms
