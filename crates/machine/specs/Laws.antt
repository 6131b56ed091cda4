-- Laws of runs: what a run does to memory, and how runs follow one another.
use Rattle.std.specs.Prelude.{◌≡◌, ◌≢◌, ℕ, ◌+◌, ◌<◌, ◌≤◌, Bool, false, ◌&&◌, Some, None, Option}
use Rattle.std.specs.List.{AllByRecursion}
use Rattle.cpu.specs.Decoding.{code_in, decoded, field_in, number_m}
use Rattle.cpu.specs.Instructions.{instruction, location_of}
use Rattle.cpu.specs.Programs.{Memory, writes_of}
use Rattle.cpu.specs.Registers.{held}
use Rattle.cpu.specs.declared.operation.Operation.{Operation}
use Rattle.cpu.specs.declared.operation.Operation.TheVariants.{MoveWords, Store, StoreJ, StoreZero}
use Rattle.cpu.specs.declared.register.Register.TheVariants.{I1}
use Rattle.cpu.specs.declared.registers.Registers.{Registers}
use Rattle.flights.specs.Flights.{Core, covers, drain, takes, units}
use Rattle.flights.specs.Flights.Drained.{clear}
use Rattle.flights.specs.declared.flight.UnitState.{UnitState}
use Rattle.flights.specs.declared.flight.UnitState.TheVariants.{Idle, Busy, Done}
use Rattle.rack.specs.Units.{Holdings}
use Rattle.rack.specs.declared.request.Request.{Request}
use Rattle.word.specs.declared.word.Word.{Word}
use Rattle.machine.specs.Runs.{Comes, Ran, refused}
use Rattle.machine.specs.Steps.{State, step}
use Rattle.machine.specs.declared.phase.Phase.TheVariants.{Running}

-- the locations that an operation may write: a store M, MOVE as many from I1 on as F says
abbrev pub MayStore : Registers → Word → Operation → ℕ → Type 0
MayStore r m (Store k f) i = location_of m ≡ Some i
MayStore r m (StoreJ f) i = location_of m ≡ Some i
MayStore r m (StoreZero f) i = location_of m ≡ Some i
MayStore r m (MoveWords n) i = (l : ℕ) × (location_of (held r I1) ≡ Some l) × (l ≤ i) × (i < l + n)
MayStore r m _ i = ⊥

-- and an instruction, by its M and its operation; one that is not listed writes nothing
abbrev pub MayWrite : Registers → Option Word → Option Operation → ℕ → Type 0
MayWrite r None p i = ⊥
MayWrite r (Some m) None i = ⊥
MayWrite r (Some m) (Some p) i = MayStore r m p i

-- whether a unit's transfer under way is an IN that will fill a location
abbrev pub fills : ℕ → UnitState → Bool
fills l Idle = false
fills l (Busy x due) = takes x.transfer && covers x.area l
fills l (Done x) = false

-- a location that a step leaves alone: no transfer under way will fill it, and the instruction does not write
-- it, which is executed once all that is due was carried out
pub record LeftAlone (s : State) (l : ℕ) : Type 0 where
  pub filled : (u : ℕ) → fills l (s.core.states u) ≡ false
  pub written : (c : Core) → drain units s.counts.clock s.core ≡ clear c → AllByRecursion (λ i. i ≢ l) (writes_of (instruction c.registers) c.memory)

pub record RunLaws {R : Type 0} (holds : R → Holdings) (tells : R → Request → ℕ) : Type 0 where
  -- b steps and then c more are b + c steps
  pub joins : (b c : ℕ) (s t u : State) → b + c ≤ 1000000 → refused b s ≡ None → refused c t ≡ None
      → Ran holds tells b s t → Ran holds tells c t u → Ran holds tells (b + c) s u
  -- a machine that has halted or is at a fault stays as it is
  pub stays : (b : ℕ) (s t : State) → (s.phase ≡ Running → ⊥) → Ran holds tells b s t → t ≡ s
  -- only stores and MOVE write memory, and only there
  pub writes : (r : Registers) (m : Memory) → let w = m r.location in AllByRecursion (MayWrite r (number_m r w) (decoded (code_in w) (field_in w))) (writes_of (instruction r) m)
  -- nothing else changes a word but an IN that is carried out, in its area
  pub leaves : (s t : State) (l : ℕ) → LeftAlone s l → Comes holds tells (step s) t → t.core.memory l ≡ s.core.memory l
