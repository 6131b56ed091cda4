use Rattle.stores.proofs.Held.{none_new}
use Rattle.stores.proofs.stores.Stores.new.Goals as goal

pub returns : goal.returns
returns c = none_new
