-- An instruction as a small program of reads and writes of memory, which ends in what comes of it.
use Rattle.std.specs.Prelude.{ℕ, Bool, true, false, cond, List, [], ◌∷◌, Option, Result, ◌==◌}
use Rattle.rack.specs.declared.request.Transfer.{Transfer}
use Rattle.rack.specs.declared.unit.Unit.{Unit}
use Rattle.word.specs.declared.word.Word.{Word}
use Rattle.cpu.specs.declared.fault.Fault.{Fault}
use Rattle.cpu.specs.declared.registers.Registers.{Registers}

-- memory: the word at each location
abbrev pub Memory : Type 0
Memory = ℕ → Word

-- memory with another word at a location
unfoldable pub stored : Memory → ℕ → Word → Memory
stored m k w l = cond (l == k) w (m l)

-- where a program goes on: the registers after it, and what J is set to, if it is
pub record Way : Type 0 where
  pub jump : Option ℕ
  pub registers : Registers

-- what comes of an instruction
pub data Outcome : Type 0 where
  -- it goes on, after a time
  goes : ℕ → Way → Outcome
  -- it goes the one way if a unit is busy, and the other if it is not; a way may be rejected
  tests : ℕ → Unit → Result Way Fault → Result Way Fault → Outcome
  -- it waits for a unit where it stands, and goes on when the unit is ready
  waits : ℕ → Unit → Registers → Outcome
  -- it issues a transfer of a unit, an area of which begins at a number
  issues : ℕ → Unit → Transfer → Word → Registers → Outcome
  -- it halts
  halts : ℕ → Registers → Outcome
  -- it is rejected
  fails : Fault → Outcome

-- the program
pub data Program : Type 0 where
  -- a word is read
  read : ℕ → (Word → Program) → Program
  -- a word is written
  write : ℕ → Word → Program → Program
  -- as the last, a word made of J is written, and it goes on after a time
  save : ℕ → (Word → Word) → ℕ → Way → Program
  done : Outcome → Program

-- what comes of it
abbrev pub outcome_of : Program → Memory → Outcome
outcome_of (read k f) m = outcome_of (f (m k)) m
outcome_of (write k w p) m = outcome_of p (stored m k w)
outcome_of (save k f t w) m = goes t w
outcome_of (done o) m = o

-- the memory after it, j being the word of J
abbrev pub memory_after : Program → Word → Memory → Memory
memory_after (read k f) j m = memory_after (f (m k)) j m
memory_after (write k w p) j m = memory_after p j (stored m k w)
memory_after (save k f t w) j m = stored m k (f j)
memory_after (done o) j m = m

-- the locations that it reads, and those that it writes
abbrev pub reads_of : Program → Memory → List ℕ
reads_of (read k f) m = k ∷ reads_of (f (m k)) m
reads_of (write k w p) m = reads_of p (stored m k w)
reads_of (save k f t w) m = []
reads_of (done o) m = []

abbrev pub writes_of : Program → Memory → List ℕ
writes_of (read k f) m = writes_of (f (m k)) m
writes_of (write k w p) m = k ∷ writes_of p (stored m k w)
writes_of (save k f t w) m = k ∷ []
writes_of (done o) m = []

-- whether it takes J
abbrev pub takes_j : Program → Memory → Bool
takes_j (read k f) m = takes_j (f (m k)) m
takes_j (write k w p) m = takes_j p (stored m k w)
takes_j (save k f t w) m = true
takes_j (done o) m = false
