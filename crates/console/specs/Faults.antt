-- The numbers of all that a call may answer instead, and what is told of each.
use Rattle.std.specs.Prelude.{ℕ, List, [], ◌∷◌, Some, None, Option, ℤ, pos}
use Rattle.flights.specs.Faults.{fault_number, told_of}
use Rattle.lines.specs.Buffer.{too_long_number}
use Rattle.machine.specs.Runs.{refusal_number}
use Rattle.mixal.specs.Causes.{number_of}
use Rattle.mixal.specs.declared.cause.Refusal.{Refusal}
use Rattle.mixal.specs.declared.cause.Refusal.TheVariants.{Rejected as NoDeck, NoMemory as NoRoom}
use Rattle.console.specs.declared.fault.JobFault.{JobFault}
use Rattle.console.specs.declared.fault.JobFault.TheVariants.{Rejected, Machine, Outside, Refused, NotHalted, TooLong, NoMemory}

-- why there is no deck, as a job's fault
abbrev pub fault_of : Refusal → JobFault
fault_of (NoDeck p) = Rejected p
fault_of NoRoom = NoMemory

-- the number of a job's fault; want of memory has none
abbrev pub job_number : JobFault → Option ℕ
job_number (Rejected p) = Some (number_of p.cause)
job_number (Machine f) = Some (fault_number f)
job_number (Outside l) = Some 10
job_number (Refused r) = Some (refusal_number r)
job_number NotHalted = Some 21
job_number (TooLong t) = Some too_long_number
job_number NoMemory = None

-- and what is told of it: the card, what the machine's fault tells, the location, the length
abbrev pub job_told : JobFault → List ℤ
job_told (Rejected p) = pos p.card ∷ []
job_told (Machine f) = told_of f
job_told (Outside l) = pos l ∷ []
job_told (Refused r) = []
job_told NotHalted = []
job_told (TooLong t) = pos t.length ∷ []
job_told NoMemory = []
