use Rattle.std.proofs.Common.{sym, ap, ◌∙◌}
use Rattle.lines.specs.Lines.{front}
use Rattle.lines.proofs.texts.front_columns.Goals as goal

pub returns-in-Some : goal.returns-in-Some
unfolding front
returns-in-Some c = c.numbered.ensures ∙ ap front (sym c.in-Some.is)

pub returns-in-None : goal.returns-in-None
unfolding front
returns-in-None c = ap front (sym c.in-None.is)
