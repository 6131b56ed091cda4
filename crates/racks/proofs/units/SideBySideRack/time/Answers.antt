use Rattle.racks.proofs.Halves.{on_left, on_right}
use Rattle.racks.proofs.units.SideBySideRack.time.Goals as goal

pub returns-then-request-self-clause-told : goal.returns-then-request-self-clause-told
returns-then-request-self-clause-told g c =
    rw (on_left c.args.self.now.split c.args.request.unit.number (λ _. g.L.Rack.tells c.args.self.now.left c.args.request) (λ _. g.R.Rack.tells c.args.self.now.right c.args.request) c.if-request-self.true) c.time.ensures.told

pub returns-else-request-self-clause-told : goal.returns-else-request-self-clause-told
returns-else-request-self-clause-told g c =
    rw (on_right c.args.self.now.split c.args.request.unit.number (λ _. g.L.Rack.tells c.args.self.now.left c.args.request) (λ _. g.R.Rack.tells c.args.self.now.right c.args.request) c.if-request-self.false) c.time-else-request-self.ensures.told
