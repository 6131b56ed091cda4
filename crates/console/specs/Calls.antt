-- What the calls of the console come to.
use Rattle.std.specs.Prelude.{◌≡◌, ℕ, ◌<◌, cond, List, ◌++◌, length, drop, Some, None, Ok, Err, Option, Result, nat_lt, ◌≢◌}
use Rattle.std.specs.Option.{unwrap_or}
use Rattle.cpu.specs.Programs.{Memory}
use Rattle.flights.specs.declared.fault.Fault.{Fault}
use Rattle.machine.specs.Model.{model, fresh}
use Rattle.machine.specs.Runs.{status_of}
use Rattle.machine.specs.Steps.{State}
use Rattle.machine.specs.declared.phase.Phase.{Phase}
use Rattle.machine.specs.declared.phase.Phase.TheVariants.{Running, Halted, Faulted}
use Rattle.machine.specs.declared.phase.RunRefusal.{RunRefusal}
use Rattle.machine.specs.declared.status.Status.{Status}
use Rattle.mixal.specs.Ends.{Assembled}
use Rattle.mixal.specs.Image.{last_at}
use Rattle.mixal.specs.Model.{assembled}
use Rattle.mixal.specs.declared.cause.Rejection.{Rejection}
use Rattle.mixal.specs.declared.deck.Deck.{Deck}
use Rattle.rack.specs.Units.{Holdings}
use Rattle.sheet.specs.Sheet.{sheet_of}
use Rattle.word.specs.declared.sign.Sign.TheVariants.{Plus}
use Rattle.word.specs.declared.word.Word.{Word}
use Rattle.word.specs.Word.{word_of}
use Rattle.console.specs.declared.closed.Closed.{Closed}
use Rattle.console.specs.declared.fault.JobFault.{JobFault}
use Rattle.console.specs.declared.fault.JobFault.TheVariants.{Rejected, Machine as AtFault, Outside, Refused, NotHalted, TooLong, NoMemory}
use Rattle.console.specs.declared.loaded.Loaded.{Loaded}
use Rattle.console.specs.declared.room.Room.{Room}
use Rattle.console.specs.declared.room.Room.TheVariants.{Open, Closed as Shut}

-- what a try at assembling gives: the defined deck or its rejection, unless memory is wanting
abbrev pub Assembles : Result Assembled Rejection → Result Deck JobFault → Type 0
Assembles (Ok a) (Ok d) = assembled d ≡ a
Assembles (Ok a) (Err f) = f ≡ NoMemory
Assembles (Err p) (Ok d) = ⊥
Assembles (Err p) (Err (Rejected q)) = q ≡ p
Assembles (Err p) (Err f) = f ≡ NoMemory

-- the memory of a deck: at each location the word of its last line for it, else +0
abbrev pub memory_of : Assembled → Memory
memory_of a l = cond (nat_lt l 4000) (unwrap_or (last_at l a.lines) (word_of Plus 0)) (word_of Plus 0)

-- a machine that a deck was just loaded into
abbrev pub loaded_with : Assembled → Holdings → State
loaded_with a h = fresh (memory_of a) a.start h

-- the machine that a value of the code stands for
abbrev pub loaded_model : {R : Type 0} → (R → Holdings) → Loaded R → State
loaded_model holds l = model holds l.machine

abbrev pub closed_model : {R : Type 0} → (R → Holdings) → Closed R → State
closed_model holds c = model holds c.machine

abbrev pub room_model : {R : Type 0} → (R → Holdings) → Room R → State
room_model holds (Open l) = loaded_model holds l
room_model holds (Shut c) = closed_model holds c

-- how a machine stands, or the fault that it is at
abbrev pub unless_faulted : Phase → Status → Result Status Fault
unless_faulted Running s = Ok s
unless_faulted Halted s = Ok s
unless_faulted (Faulted f) s = Err f

-- a machine's fault, carried whole in a job's
abbrev pub carried : Result Status Fault → Result Status JobFault
carried (Ok s) = Ok s
carried (Err f) = Err (AtFault f)

-- the answer to a run: how the machine then stands, or the fault that it is at; or why the run was refused
abbrev pub run_answer : Option RunRefusal → State → Result Status JobFault
run_answer None t = carried (unless_faulted t.phase (status_of t))
run_answer (Some r) t = Err (Refused r)

-- the word at a location, if that is in memory
abbrev pub word_in : Memory → ℕ → Option Word
word_in m l = cond (nat_lt l 4000) (Some (m l)) None

-- and the answer to who asks for it
abbrev pub word_or : ℕ → Option Word → Result Word JobFault
word_or l None = Err (Outside l)
word_or l (Some w) = Ok w

abbrev pub peeked : State → ℕ → Result Word JobFault
peeked s l = word_or l (word_in s.core.memory l)

-- what a try at closing gives: a machine that has halted is closed and keeps every value; any other comes back
-- as it was, with the refusal
abbrev pub Closes : {R : Type 0} → (R → Holdings) → Loaded R → Result (Closed R) (Loaded R × JobFault) → Type 0
Closes holds l (Ok c) = ((loaded_model holds l).phase ≡ Halted) × (closed_model holds c ≡ loaded_model holds l)
Closes holds l (Err p) = ((loaded_model holds l).phase ≢ Halted) × (p.0 ≡ l) × (p.1 ≡ NotHalted)

-- what a buffer holds after a sheet is asked for: the sheet at its front, with its length told, and what follows
-- as it was; or the sheet is longer, or memory is wanting, and the buffer stays as it was
abbrev pub SheetWritten : State → List ℕ → List ℕ → Result ℕ JobFault → Type 0
SheetWritten s old new (Ok n) = (n ≡ length (sheet_of s)) × (new ≡ sheet_of s ++ drop n old)
SheetWritten s old new (Err (TooLong t)) = (t.length ≡ length (sheet_of s)) × (length old < length (sheet_of s)) × (new ≡ old)
SheetWritten s old new (Err NoMemory) = new ≡ old
SheetWritten s old new (Err (Rejected p)) = ⊥
SheetWritten s old new (Err (AtFault f)) = ⊥
SheetWritten s old new (Err (Outside l)) = ⊥
SheetWritten s old new (Err (Refused r)) = ⊥
SheetWritten s old new (Err NotHalted) = ⊥

-- and the machine: it is used up, or comes back as it was
abbrev pub SheetGiven : {R : Type 0} → (R → Holdings) → Closed R → List ℕ → List ℕ → Result ℕ (Closed R × JobFault) → Type 0
SheetGiven holds c old new (Ok n) = SheetWritten (closed_model holds c) old new (Ok n)
SheetGiven holds c old new (Err p) = (p.0 ≡ c) × SheetWritten (closed_model holds c) old new (Err p.1)
