-- How the answer of the code stands for what comes of a program.
use Rattle.std.specs.Prelude.{◌≡◌, ℕ, zero, suc, true, false, List, [], ◌∷◌, ◌++◌, Ok, Err, Option, Result, slice_index_or, ⊤}
use Rattle.word.specs.declared.sign.Sign.TheVariants.{Plus}
use Rattle.word.specs.declared.word.Word.{Word}
use Rattle.word.specs.Word.{word_of}
use Rattle.cpu.specs.declared.fault.Fault.{Fault}
use Rattle.cpu.specs.declared.registers.Registers.{Registers}
use Rattle.cpu.specs.declared.step.Next.{Next}
use Rattle.cpu.specs.declared.step.Next.TheVariants.{Goes, Tests, Waits, Issues, Halts}
use Rattle.cpu.specs.declared.step.Span.{Span}
use Rattle.cpu.specs.declared.step.Step.{Step}
use Rattle.cpu.specs.Instructions.{along, jump_to}
use Rattle.cpu.specs.Programs.{Memory, Outcome, Program, Way, outcome_of, memory_after, reads_of, writes_of, takes_j}
use Rattle.cpu.specs.Programs.Outcome.{goes, tests, waits, issues, halts, fails}
use Rattle.cpu.specs.Registers.{onward}

-- a list of words as a memory
unfoldable pub cells : List Word → Memory
cells ws l = slice_index_or ws l (word_of Plus 0)

-- n locations from l on
abbrev pub row : ℕ → ℕ → List ℕ
row l zero = []
row l (suc n) = l ∷ row (suc l) n

abbrev pub locations : Span → List ℕ
locations s = row s.start s.count

-- what the code says comes of an instruction, r being the registers after it
abbrev pub said : ℕ → Next → Registers → Outcome
said t (Goes j) r = goes t (record { jump = j; registers = r })
said t (Tests u true m) r = tests t u (jump_to m r) (Ok (along r))
said t (Tests u false m) r = tests t u (Ok (along r)) (jump_to m r)
said t (Waits u) r = waits t u (onward r)
said t (Issues u x m) r = issues t u x m (onward r)
said t Halts r = halts t (onward r)

-- the registers change only where it goes on
abbrev pub Stays : Next → Registers → Registers → Type 0
Stays (Goes j) old new = ⊤
Stays (Tests u b m) old new = new ≡ old
Stays (Waits u) old new = new ≡ old
Stays (Issues u x m) old new = new ≡ old
Stays Halts old new = new ≡ old

-- a program was executed: registers and memory, old and new, j being the word of J; it read the words at
-- the locations ahead, and then those that are told
pub record Done (p : Program) (ahead : List ℕ) (j : Word) (r : Registers) (m : Memory) (r′ : Registers) (m′ : Memory) (s : Step) : Type 0 where
  pub outcome : outcome_of p m ≡ said s.time s.next r′
  pub memory : memory_after p j m ≡ m′
  pub reads : reads_of p m ≡ ahead ++ locations s.reads
  pub writes : writes_of p m ≡ locations s.writes
  pub takes : takes_j p m ≡ s.takes_j
  pub stays : Stays s.next r r′

-- what an answer says: the program was executed, or it is rejected and nothing changed
abbrev pub Executes : Program → List ℕ → Word → Registers → Memory → Registers → Memory → Result Step Fault → Type 0
Executes p ahead j r m r′ m′ (Ok s) = Done p ahead j r m r′ m′ s
Executes p ahead j r m r′ m′ (Err f) = (outcome_of p m ≡ fails f) × (r′ ≡ r) × (m′ ≡ m)

-- the registers went a way, and it set J to what is told; or the way is rejected and nothing changed
abbrev pub Went : Result Way Fault → Registers → Registers → Result (Option ℕ) Fault → Type 0
Went w old new (Ok j) = w ≡ Ok (record { jump = j; registers = new })
Went w old new (Err f) = (w ≡ Err f) × (new ≡ old)
