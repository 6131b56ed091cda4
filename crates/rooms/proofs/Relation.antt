-- How a room's machine stands to the untimed one.
use Rattle.std.proofs.Common.{◌≡◌, ℕ, ◌-◌, ◌<◌, Bool, true, false, ◌⊎◌, get_or, Option, Some, None, Ok, Err, refl}
use Rattle.std.specs.Prelude.{⊤}
use Rattle.cpu.specs.Instructions.{instruction}
use Rattle.cpu.specs.Programs.{Memory, Outcome, outcome_of}
use Rattle.cpu.specs.Programs.Outcome.{goes, tests, waits, issues, halts, fails}
use Rattle.flights.specs.Flights.{Core, States, units, unit_at, opens, given}
use Rattle.machine.specs.Steps.{State}
use Rattle.flights.specs.Watch.{Open, in_input, in_output}
use Rattle.flights.specs.declared.flight.Flight.{Flight}
use Rattle.flights.specs.declared.flight.UnitState.{UnitState}
use Rattle.flights.specs.declared.flight.UnitState.TheVariants.{Idle, Busy, Done}
use Rattle.flights.specs.declared.fault.Fault.{Fault}
use Rattle.machine.specs.declared.j.J.{J}
use Rattle.machine.specs.declared.phase.Phase.{Phase}
use Rattle.machine.specs.declared.phase.Phase.TheVariants.{Running, Halted, Faulted}
use Rattle.rack.specs.Transfers.{Answer, perform}
use Rattle.rack.specs.Units.{Holding}
use Rattle.word.specs.declared.sign.Sign.TheVariants.{Plus}
use Rattle.word.specs.Word.{word_of}
use Rattle.rooms.proofs.Eager.{Course, Eager, Life}
use Rattle.rooms.proofs.Eager.Course.{running, halted, lost}
use Rattle.rooms.proofs.Eager.Life.{holding, dead}

-- a location in the area of an IN under way
abbrev pub busy_at : ℕ → UnitState → Bool
busy_at l Idle = false
busy_at l (Busy x due) = in_input l (Some x)
busy_at l (Done x) = false

-- a transfer under way, by what it would do now: the untimed machine has its effect already
abbrev pub Pending : Flight → Life → Memory → Answer → Type 0
Pending x l em (Ok e) = (l ≡ holding (Some e.holding)) × ((i : ℕ) → in_input i (Some x) ≡ true → get_or e.block (i - x.area.start) (word_of Plus 0) ≡ em i)
Pending x l em (Err f) = l ≡ dead

abbrev pub UnitRel : ℕ → UnitState → Option Holding → Life → Memory → Memory → Type 0
UnitRel u Idle h l tm em = l ≡ holding h
UnitRel u (Busy x due) h l tm em = Pending x l em (perform (unit_at u) x.transfer (given x tm) h)
UnitRel u (Done x) h l tm em = l ≡ holding h

-- only units are open
abbrev pub Low : ℕ → UnitState → Type 0
Low u Idle = ⊤
Low u (Busy x due) = u < units
Low u (Done x) = u < units

-- no IN is under way over a location
abbrev pub Quiet : States → ℕ → Type 0
Quiet s l = (u : ℕ) → busy_at l (s u) ≡ false

-- the areas of an open IN and of an open OUT have no location in common
abbrev pub Apart : Open → Type 0
Apart o = (u v l : ℕ) → in_input l (o u) ≡ true → in_output l (o v) ≡ true → ⊥

pub record Rel (c : Core) (e : Eager) : Type 0 where
  pub registers : c.registers ≡ e.registers
  pub memory : (l : ℕ) → Quiet c.states l → c.memory l ≡ e.memory l
  pub unit : (u : ℕ) → UnitRel u (c.states u) (c.units u) (e.units u) c.memory e.memory
  pub opened : opens c ≡ e.opens
  pub low : (u : ℕ) → Low u (c.states u)
  pub apart : Apart e.opens

-- a unit that is not busy
abbrev pub Calm : UnitState → Type 0
Calm Idle = ⊤
Calm (Busy x due) = ⊥
Calm (Done x) = ⊤

-- J settled alike, and the same where it is settled
pub record Level (a b : J) : Type 0 where
  pub settled : a.settled ≡ b.settled
  pub location : a.settled ≡ true → a.location ≡ b.location

-- the untimed machine is about to wait for an open unit; a room's machine that waits there has unsettled J before it
abbrev pub Ahead : Open → Outcome → Type 0
Ahead o (goes t w) = ⊥
Ahead o (tests t u busy free) = ⊥
Ahead o (waits t u r) = (x : Flight) × (o u.number ≡ Some x)
Ahead o (issues t u x v r) = ⊥
Ahead o (halts t r) = ⊥
Ahead o (fails f) = ⊥

abbrev pub Linked : J → J → Open → Outcome → Type 0
Linked a b o z = Level a b ⊎ ((a.settled ≡ false) × Ahead o z)

abbrev pub Alike : Phase → Course → Type 0
Alike Running running = ⊤
Alike Running halted = ⊥
Alike Running lost = ⊥
Alike Halted running = ⊥
Alike Halted halted = ⊤
Alike Halted lost = ⊥
Alike (Faulted f) c = ⊥

pub alike_halted : (p : Phase) (c : Course) → Alike p c → p ≡ Halted → c ≡ halted
alike_halted Running c h i = absurd (cc i)
alike_halted Halted running h i = absurd h
alike_halted Halted halted h i = refl
alike_halted Halted lost h i = absurd h
alike_halted (Faulted f) c h i = absurd h

pub alike_running : (p : Phase) (c : Course) → Alike p c → p ≡ Running → c ≡ running
alike_running Running running h i = refl
alike_running Running halted h i = absurd h
alike_running Running lost h i = absurd h
alike_running Halted c h i = absurd (cc i)
alike_running (Faulted f) c h i = absurd h

pub alike_faulted : (p : Phase) (c : Course) → Alike p c → (f : Fault) → p ≡ Faulted f → ⊥
alike_faulted Running c h f i = cc i
alike_faulted Halted c h f i = cc i
alike_faulted (Faulted g) c h f i = h

pub record Rels (s : State) (e : Eager) : Type 0 where
  pub core : Rel s.core e
  pub j : Linked s.j e.j e.opens (outcome_of (instruction e.registers) e.memory)
  pub mark : s.mark ≡ None
  pub phase : Alike s.phase e.course
  pub time : s.counts.working_time ≡ e.time
  pub steps : s.counts.working_steps ≡ e.steps
  pub calm : s.phase ≡ Halted → (u : ℕ) → Calm (s.core.states u)
  pub level : s.phase ≡ Halted → Level s.j e.j
