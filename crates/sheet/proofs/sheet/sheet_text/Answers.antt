use Rattle.sheet.proofs.Told.{told}
use Rattle.sheet.proofs.sheet.sheet_text.Goals as goal

pub returns-clause-tells : goal.returns-clause-tells
returns-clause-tells g c = told
