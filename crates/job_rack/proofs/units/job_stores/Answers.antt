use Rattle.std.proofs.Common.{Some, ap, ◌∙◌}
use Rattle.rack.specs.Units.{Holding}
use Rattle.rack.specs.Transfers.{updated}
use Rattle.stores.specs.Stores.{holds_of}
use Rattle.job_rack.proofs.Racks.{disk_made, stores_made}
use Rattle.job_rack.proofs.units.job_stores.Goals as goal

pub returns : goal.returns
returns c =
    stores_made _ _ _ _ c.new-stores.ensures
    (c.in_ok-install.ensures ∙ ap (λ (d : Holding). updated (holds_of c.new-stores.result) 8 (Some d)) (disk_made c.of.result.words c.of.ensures))
    c.in_ok-install-2.ensures c.in_ok-install-3.ensures
