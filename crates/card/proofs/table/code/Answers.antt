use Rattle.std.proofs.Common.{◌≡◌, sym, ◌∙◌, rules}
use Rattle.card.specs.Table.{code_of}
use Rattle.card.proofs.Rule.{run_code_found, undo, stands}
use Rattle.card.proofs.table.code.Goals as goal

pub returns : goal.returns
returns c =
    let e : c.by_run.result ≡ code_of c.args.character = c.by_run.ensures ∙ run_code_found c.args.character (search rules) in
    record { value = e; back = stands c.args.character c.by_run.result (sym e); rule = undo }
