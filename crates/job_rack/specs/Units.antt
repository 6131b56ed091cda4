-- The units of a job.
use Rattle.std.specs.Prelude.{ℕ, ◌*◌, ◌≤◌, Bool, true, false, cond, List, [], map, take, replicate, Some, None, ◌==◌, nat_lt}
use Rattle.std.proofs.Common.{arith}
use Rattle.card.specs.Text.{card_of}
use Rattle.rack.specs.Units.{Holding, Holdings}
use Rattle.rack.specs.declared.standing.Ring.TheVariants.{In}
use Rattle.word.specs.declared.sign.Sign.TheVariants.{Plus}
use Rattle.word.specs.Word.{word_of}
use Rattle.paper.specs.Tray.{lines_held}
use Rattle.paper.specs.declared.device.Device.TheVariants.{Punch, Printer}

-- an empty tape, and a disk of words +0
abbrev pub empty_tape : Holding
empty_tape = record { capacity = 20; blocks = []; position = 0; ring = In }

abbrev pub zero_disk : Holding
zero_disk = record { capacity = 20; blocks = replicate 20 (Some (replicate 100 (word_of Plus 0))); position = 0; ring = In }

-- the reader of the first 200 data cards, before the first of them
abbrev pub data_reader : List (List ℕ) → Holding
data_reader cards = record { capacity = 200; blocks = map card_of (take 200 cards); position = 0; ring = In }

-- tapes 0 and 1, and disk 8
unfoldable pub store_units : Holdings
store_units u = cond (u == 0) (Some empty_tape) (cond (u == 1) (Some empty_tape) (cond (u == 8) (Some zero_disk) None))

-- what each unit of a job holds at first: the stores, the reader with the data cards, punch and printer
unfoldable pub job_units : List (List ℕ) → Holdings
job_units cards u =
    cond (nat_lt u 16) (store_units u) (
    cond (u == 16) (Some (data_reader cards)) (
    cond (u == 17) (Some (lines_held Punch 200 [] In)) (
    cond (u == 18) (Some (lines_held Printer 200 [] In)) None)))

-- the time that is told of each transfer of a unit
abbrev pub job_time : ℕ → ℕ
job_time u = cond (u == 8) 30 (cond (u == 16) 80 (cond (u == 17) 100 (cond (u == 18) 60 20)))

-- it is one that a rack may tell, and so is its double
small_time : (u : ℕ) → job_time u ≤ 100
small_time u =
    at (u == 8) (u == 16) (u == 17) (u == 18)
  where
    at : (a b c d : Bool) → cond a 30 (cond b 80 (cond c 100 (cond d 60 20))) ≤ 100
    at true b c d = omega arith
    at false true c d = omega arith
    at false false true d = omega arith
    at false false false true = omega arith
    at false false false false = omega arith

pub times_fit : (u : ℕ) → job_time u ≤ 65535
times_fit u = let h = small_time u in omega arith

pub double_fits : (u : ℕ) → 2 * job_time u ≤ 65535
double_fits u = let h = small_time u in omega arith
