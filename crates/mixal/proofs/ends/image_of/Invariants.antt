use Rattle.std.proofs.Common.{◌≡◌, drop}
use Rattle.mixal.specs.Image.{image_from, image_of}
use Rattle.mixal.proofs.ends.image_of.Given as goal

abbrev pub invariant-loop-line : goal.invariant-loop-line
invariant-loop-line l = image_from l.image (drop l.line-index l.lines) ≡ image_of l.lines
