-- What a sheet tells.
use Rattle.std.specs.Prelude.{◌≡◌, ℕ, ◌^◌, ◌<◌, true, IfSome}
use Rattle.cpu.specs.Registers.{held}
use Rattle.cpu.specs.declared.register.Register.{Register}
use Rattle.machine.specs.Steps.{State}
use Rattle.rack.specs.Units.{columns, text_of_unit}
use Rattle.sheet.specs.Sheet.{count_of, sheet_of}

-- two machines have the same text on a unit
pub record SameText (u : ℕ) (s t : State) : Type 0 where
  pub count : count_of (s.core.units u) ≡ count_of (t.core.units u)
  pub text : (p : ℕ) → p < count_of (s.core.units u) → columns (text_of_unit u (s.core.units u) p) ≡ columns (text_of_unit u (t.core.units u) p)

-- two machines have the same record
pub record SameRecord (s t : State) : Type 0 where
  pub memory : (l : ℕ) → l < 4000 → s.core.memory l ≡ t.core.memory l
  pub registers : (k : Register) → held s.core.registers k ≡ held t.core.registers k
  pub overflow : s.core.registers.overflow ≡ t.core.registers.overflow
  pub indicator : s.core.registers.indicator ≡ t.core.registers.indicator
  pub settled : s.j.settled ≡ t.j.settled
  pub j : s.j.settled ≡ true → s.j.location ≡ t.j.location
  pub mark : s.mark ≡ t.mark
  pub working_steps : s.counts.working_steps ≡ t.counts.working_steps
  pub working_time : s.counts.working_time ≡ t.counts.working_time
  pub clock : s.counts.clock ≡ t.counts.clock
  pub waiting : s.counts.waiting ≡ t.counts.waiting
  pub printer : SameText 18 s t
  pub punch : SameText 17 s t

-- the numbers that a sheet shows of a machine, each within the room that it has in the code
pub record InRange (s : State) : Type 0 where
  pub j : s.j.location < 2 ^ 16
  pub mark : IfSome s.mark (λ m. (m.unit.number < 2 ^ 8) × (m.location < 2 ^ 16))
  pub working_steps : s.counts.working_steps < 2 ^ 64
  pub working_time : s.counts.working_time < 2 ^ 64
  pub clock : s.counts.clock < 2 ^ 64
  pub waiting : s.counts.waiting < 2 ^ 64

-- a sheet tells the record
abbrev pub TellsRecord : Type 0
TellsRecord = (s t : State) → InRange s → InRange t → sheet_of s ≡ sheet_of t → SameRecord s t
