use Rattle.std.proofs.Common.{Option, ap, ◌∙◌}
use mathlib.Core.Path.{fun_ext}
use Rattle.card.specs.Lines.{cards_of}
use Rattle.rack.specs.Units.{Holding}
use Rattle.paper.specs.Reader.{alone}
use Rattle.job_rack.proofs.Racks.{rack_made, reader_made}
use Rattle.job_rack.proofs.units.units.Goals as goal

pub returns : goal.returns
returns c =
    let cards = cards_of c.args.cards.now in
    let r = c.new-reader.ensures.holds ∙ ap (λ (o : Option Holding). alone 16 o) (reader_made c.first_cards.result.0.now cards c.first_cards.ensures.first) in
    c.new.ensures.holds
    ∙ fun_ext (rack_made _ _ _ _ _ _ cards c.new-paper.ensures.holds c.new-trays.ensures.holds c.in_ok-stores.ensures r c.in_ok-punch.ensures c.in_ok-printer.ensures)
