use Rattle.std.proofs.Common.{◌≡◌, drop}
use Rattle.room_jobs.specs.Arguments.{decimal_after, decimal_of}
use Rattle.room_jobs.proofs.arguments.decimal.Given as goal

-- the digits that are left follow those of the number
abbrev pub invariant-loop-byte : goal.invariant-loop-byte
invariant-loop-byte l = decimal_of l.text ≡ decimal_after l.number (drop l.byte-index l.text)
