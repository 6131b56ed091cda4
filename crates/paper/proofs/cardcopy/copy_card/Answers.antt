use Rattle.paper.proofs.Again.{made}
use Rattle.paper.proofs.cardcopy.copy_card.Goals as goal

pub returns : goal.returns
returns g c =
    let m = made (g.R.Rack.holds c.args.rack.now) (g.R.Rack.holds c.take.new.self) (g.R.Rack.holds c.put.new.self) c.take.new.area c.wrapping-words.result c.put.result (g.met.R.Rack.sound c.args.rack.now 16) c.in_ok-take.ensures.units c.in_ok-take.ensures.area c.put.ensures in
    record { units = m.units; text = m.text }
