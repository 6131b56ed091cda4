use Rattle.std.proofs.Common.{rules}
use Rattle.std.proofs.lemmas.Option.{unwrap_or-slice_get}
use Rattle.names.specs.Times.{times}
use Rattle.names.proofs.times.base_time.Goals as goal

pub returns : goal.returns
unfolding times
returns c = search (rules, unwrap_or-slice_get)
