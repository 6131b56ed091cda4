use Rattle.deck_laws.proofs.Answered.{lawful}
use Rattle.deck_laws.proofs.assemble.Goals as goal

pub returns-clause-laws : goal.returns-clause-laws
returns-clause-laws c = lawful c.args.text.now c.assemble.result c.assemble.ensures
