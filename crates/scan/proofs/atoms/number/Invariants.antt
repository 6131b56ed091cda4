use Rattle.std.proofs.Common.{◌≡◌, ◌^◌, ◌<◌, drop}
use Rattle.scan.specs.Atoms.{all_digits, digits_from}
use Rattle.scan.proofs.atoms.number.Given as goal

abbrev pub invariant-loop-b : goal.invariant-loop-b
invariant-loop-b l = (l.sum < 10 ^ l.b-index) × (all_digits (drop l.b-index l.text) ≡ all_digits l.text) × (digits_from l.sum (drop l.b-index l.text) ≡ digits_from 0 l.text)
