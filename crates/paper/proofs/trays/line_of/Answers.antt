use Rattle.std.proofs.Common.{sym, ap, ◌∙◌}
use Rattle.std.proofs.lemmas.List.{append-nil}
use Rattle.card.specs.Text.{words_text}
use Rattle.rack.specs.Transfers.{block_in}
use Rattle.paper.specs.declared.device.Device.TheVariants.{Punch, Printer}
use Rattle.paper.proofs.Printing.{device_line}
use Rattle.paper.proofs.trays.line_of.Goals as goal

pub returns-in-Punch : goal.returns-in-Punch
returns-in-Punch c =
    let l = device_line c.args.device Punch c.args.area.now c.card_line.result c.in-Punch.is c.card_line.ensures in
    record { block = l.block; shown = l.shown }

pub returns-in-Printer : goal.returns-in-Printer
unfolding block_in
returns-in-Printer c =
    let e = c.line_text.ensures ∙ ap words_text c.block_of.ensures ∙ sym (append-nil _) in
    let l = device_line c.args.device Printer c.args.area.now c.line_text.result c.in-Printer.is e in
    record { block = l.block; shown = l.shown }
