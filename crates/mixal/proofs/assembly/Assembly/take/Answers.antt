use Rattle.std.proofs.Common.{rules}
use Rattle.mixal.specs.Model.{model_of}
use Rattle.symbols.specs.Symbols.{entries}
use Rattle.mixal.proofs.Found.{late_alike, late_bad, late_good, in_range}
use Rattle.mixal.proofs.assembly.Assembly.take.Goals as goal

pub returns-in-Err : goal.returns-in-Err
returns-in-Err c =
    late_bad c.args.last (model_of c.args.self.now) c.args.card.now.sound.text.now c.args.card.now.operation c.requires.read c.requires.open
    c.in-Err.cause (late_alike c.args.last c.args.card.now.sound.text.now c.args.card.now.operation c.scope.ensures.symbols c.scope.ensures.here c.in-Err.ensures.bad) c.rejected.result c.rejected.ensures (model_of c.args.self.now)

pub operate-requires : goal.operate-requires
operate-requires c =
    let h = in_range c.args.last (entries c.args.self.now.progress.symbols) c.args.self.now.progress.here c.args.card.now.sound.text.now c.args.card.now.operation (late_alike c.args.last c.args.card.now.sound.text.now c.args.card.now.operation c.scope.ensures.symbols c.scope.ensures.here c.in_default.ensures.good) in
    search rules

pub returns : goal.returns
returns c =
    late_good c.args.last (model_of c.args.self.now) c.args.card.now.sound.text.now c.args.card.now.operation c.requires.read c.requires.open
    (late_alike c.args.last c.args.card.now.sound.text.now c.args.card.now.operation c.scope.ensures.symbols c.scope.ensures.here c.in_default.ensures.good) _ c.in_ok-operate.ensures
