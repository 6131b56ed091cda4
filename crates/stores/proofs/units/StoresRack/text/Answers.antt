use Rattle.rack.specs.Units.{columns}
use Rattle.stores.proofs.Held.{no_text}
use Rattle.stores.proofs.units.StoresRack.text.Goals as goal

pub returns : goal.returns
unfolding columns
returns c = rw no_text
