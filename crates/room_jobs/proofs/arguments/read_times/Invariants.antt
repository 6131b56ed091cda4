use Rattle.std.proofs.Common.{◌≡◌, drop, map, string_bytes}
use Rattle.job_rack.specs.Settings.{no_settings}
use Rattle.room_jobs.specs.Arguments.{words_read}
use Rattle.room_jobs.proofs.arguments.read_times.Given as goal

-- the words that are left go on from the times that are set
abbrev pub invariant-loop-word : goal.invariant-loop-word
invariant-loop-word l = words_read no_settings (map string_bytes l.words) ≡ words_read l.times.set (map string_bytes (drop l.word-index l.words))
