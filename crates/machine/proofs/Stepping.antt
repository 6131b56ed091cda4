-- One step, as the code makes it: what is due, the instruction, and what comes of it.
use Rattle.std.proofs.Common.{◌≡◌, ℕ, ◌<◌, ◌^◌, Bool, true, false, cond, not, ◌&&◌, nat_lt, [], ◌∷◌, Some, None, Ok, Err, Option, Result, refl, sym, ap, subst, ◌∙◌, arith, ltb-true, ◌⊎◌, inl, inr}
use Rattle.cpu.specs.Executed.{Done, Stays, locations, said}
use Rattle.cpu.specs.Instructions.{instruction, program_of}
use Rattle.cpu.specs.Programs.{Memory, Outcome, Way, outcome_of, memory_after}
use Rattle.cpu.specs.Programs.Outcome.{goes, tests, waits, issues, halts, fails}
use Rattle.cpu.specs.declared.fault.Fault.{Fault as Rejection}
use Rattle.cpu.specs.declared.fault.Fault.TheVariants.{Outside}
use Rattle.cpu.specs.declared.registers.Registers.{Registers}
use Rattle.cpu.specs.declared.step.Next.{Next}
use Rattle.cpu.specs.declared.step.Next.TheVariants.{Goes, Tests, Waits, Issues, Halts}
use Rattle.cpu.specs.declared.step.Step.{Step as Executed}
use Rattle.flights.specs.Flights.{Core, Drained, drain, later, last_due, opens, units}
use Rattle.flights.specs.Flights.Drained.{clear, broke}
use Rattle.flights.specs.Issues.{flight_if}
use Rattle.std.specs.Option.{option_or}
use Rattle.flights.specs.Watch.{j_mark, touch_mark}
use Rattle.flights.specs.declared.fault.Fault.{Fault}
use Rattle.flights.specs.declared.flight.Flight.{Flight}
use Rattle.flights.specs.declared.flight.UnitState.{UnitState}
use Rattle.flights.specs.declared.flight.UnitState.TheVariants.{Idle, Busy, Done as Landed}
use Rattle.flights.specs.declared.mark.Mark.{Mark}
use Rattle.flights.proofs.Dues.{Held, drain_held}
use Rattle.machine.specs.Acts.{Here}
use Rattle.machine.specs.Small.{Low, Small}
use Rattle.machine.specs.Steps.Step.{ready}
use Rattle.machine.specs.declared.counts.Counts.{Counts}
use Rattle.flights.specs.declared.fault.Fault.TheVariants.{Instruction as of_instruction}
use Rattle.cpu.specs.Programs.Program.{read, done}
use Rattle.cpu.specs.Decoding.{code_in, decoded, field_in, number_m}
use Rattle.machine.specs.Steps.{State, failed, acknowledged, act, begun, halted as has_halted, issued, issued_if, j_word, obeys, paused, step, step_in, tested, touched, went_if}
use Rattle.machine.specs.declared.phase.Phase.{Phase}
use Rattle.machine.specs.declared.phase.Phase.TheVariants.{Running, Halted, Faulted}
use Rattle.machine.proofs.Calm.{Calm, calm}
use Rattle.rack.specs.Units.{kind_of}
use Rattle.rack.specs.declared.unit.Unit.{Unit as Device}
use Rattle.word.specs.declared.sign.Sign.TheVariants.{Plus}
use Rattle.word.specs.Word.{word_of}

-- of the machine before only what is no part of its core matters
module _ (s : State) (k c : Core) (m : Memory) (a : Option Mark) where
  went_core : (old d : Core) (t : ℕ) (a : Option Mark) (w : Result Way Rejection) → went_if (record s { core = k }) old d m t a w ≡ went_if s old d m t a w
  went_core old d t a (Ok w) = refl
  went_core old d t a (Err f) = refl

  tested_core : (t u : ℕ) (busy free : Result Way Rejection) (z : UnitState) → tested (record s { core = k }) c m t u busy free a z ≡ tested s c m t u busy free a z
  tested_core t u busy free Idle = went_core c c t a free
  tested_core t u busy free (Busy x due) = went_core c c t _ busy
  tested_core t u busy free (Landed x) = went_core c (acknowledged u c) t _ free

  paused_core : (t u : ℕ) (r : Registers) (z : UnitState) → paused (record s { core = k }) c t u r a z ≡ paused s c t u r a z
  paused_core t u r Idle = refl
  paused_core t u r (Busy x due) = refl
  paused_core t u r (Landed x) = refl

  issued_core : (t : ℕ) (u : Device) (r : Registers) (f : Result Flight Fault) → issued_if (record s { core = k }) c t u r a f ≡ issued_if s c t u r a f
  issued_core t u r (Err f) = refl
  issued_core t u r (Ok y) = go (drain units (later s.counts.clock (c.states u.number)) c)
    where
      go : (z : Drained) → issued (record s { core = k }) (later s.counts.clock (c.states u.number)) t u r a y z ≡ issued s (later s.counts.clock (c.states u.number)) t u r a y z
      go (clear d) = refl
      go (broke d due f) = refl

  halted_core : (now t : ℕ) (r : Registers) (z : Drained) → has_halted (record s { core = k }) now t r a z ≡ has_halted s now t r a z
  halted_core now t r (clear d) = refl
  halted_core now t r (broke d due f) = refl

  act_core : (o : Outcome) → act (record s { core = k }) c m a o ≡ act s c m a o
  act_core (goes t w) = refl
  act_core (tests t u busy free) = ap ready (tested_core t u.number busy free (c.states u.number))
  act_core (waits t u r) = ap ready (paused_core t u.number r (c.states u.number))
  act_core (issues t u x v r) = issued_core t u r (flight_if u x v c.registers.location (c.units u.number) (kind_of u.number))
  act_core (halts t r) = ap ready (halted_core (last_due units s.counts.clock c.states) t r (drain units (last_due units s.counts.clock c.states) c))
  act_core (fails f) = refl

-- a step of a machine that runs
module _ (s : State) (i : s.phase ≡ Running) where
  at_start : begun s (drain units s.counts.clock s.core) ≡ step s
  unfolding step
  at_start = ap (λ p. step_in p s) (sym i)

  pub step_broke : (c : Core) (due : ℕ) (f : Fault) → drain units s.counts.clock s.core ≡ broke c due f → ready (failed s c s.counts f) ≡ step s
  step_broke c due f e = ap (begun s) (sym e) ∙ at_start

  pub step_clear : (c : Core) → drain units s.counts.clock s.core ≡ clear c → obeys s c (instruction c.registers) ≡ step s
  step_clear c e = ap (begun s) (sym e) ∙ at_start

pub step_still : (s : State) → (s.phase ≡ Running → ⊥) → ready s ≡ step s
unfolding step
step_still s n = go s.phase refl
  where
    go : (p : Phase) → s.phase ≡ p → ready s ≡ step_in p s
    go Running i = absurd (n i)
    go Halted i = refl
    go (Faulted f) i = refl

-- an instruction that was executed: r and m are the registers and the memory after it
module _ (s : State) (c : Core) (r : Registers) (m : Memory) (x : Executed) where
  abbrev pub after : Core
  after = record c { registers = r; memory = m }

  back : (a : Option Mark) (o : Outcome) → r ≡ c.registers → m ≡ c.memory → act s (record c { registers = r; memory = m }) m a o ≡ act s c m a o
  back a o e f = ap (λ d. act s d m a o) (λ i. record c { registers = e i; memory = f i })

  settled : (a : Option Mark) (t : ℕ) (n : Next) → Stays n c.registers r → Calm (said t n r) c.memory m → act s (record c { registers = r; memory = m }) m a (said t n r) ≡ act s c m a (said t n r)
  settled a t (Goes j) e f = refl
  settled a t (Tests u true to) e f = back a (said t (Tests u true to) r) e f
  settled a t (Tests u false to) e f = back a (said t (Tests u false to) r) e f
  settled a t (Waits u) e f = back a (said t (Waits u) r) e f
  settled a t (Issues u y v) e f = back a (said t (Issues u y v) r) e f
  settled a t Halts e f = back a (said t Halts r) e f

  module _ (d : Done (instruction c.registers) (c.registers.location ∷ []) (j_word s.j) c.registers c.memory r m x) where
    calmed : Calm (said x.time x.next r) c.memory m
    calmed = subst (λ o. Calm o c.memory m) d.outcome (subst (Calm (outcome_of (instruction c.registers) c.memory) c.memory) d.memory (calm c.registers (j_word s.j) c.memory))

    mark_same : option_or s.mark (option_or (touch_mark (opens c) (c.registers.location ∷ locations x.reads) (locations x.writes) c.registers.location) (cond (not s.j.settled && x.takes_j) (Some (j_mark c.registers.location)) None))
        ≡ touched s c (instruction c.registers)
    mark_same = λ i. option_or s.mark (option_or (touch_mark (opens c) (sym d.reads i) (sym d.writes i) c.registers.location) (cond (not s.j.settled && sym d.takes i) (Some (j_mark c.registers.location)) None))

    pub executed : (a : Option Mark) → a ≡ option_or s.mark (option_or (touch_mark (opens c) (c.registers.location ∷ locations x.reads) (locations x.writes) c.registers.location) (cond (not s.j.settled && x.takes_j) (Some (j_mark c.registers.location)) None))
        → act (record s { core = record c { registers = r; memory = m } }) (record c { registers = r; memory = m }) m a (said x.time x.next r) ≡ obeys s c (instruction c.registers)
    executed a e =
        act_core s (record c { registers = r; memory = m }) (record c { registers = r; memory = m }) m a (said x.time x.next r)
        ∙ settled a x.time x.next d.stays calmed
        ∙ (λ i. act s c (sym d.memory i) ((e ∙ mark_same) i) (sym d.outcome i))

-- and one that was rejected
pub rejected : (s : State) (c : Core) (f : Rejection) → outcome_of (instruction c.registers) c.memory ≡ fails f → ready (failed s c s.counts (of_instruction f)) ≡ obeys s c (instruction c.registers)
rejected s c f e = ap (act s c (memory_after (instruction c.registers) (j_word s.j) c.memory) (touched s c (instruction c.registers))) (sym e)

-- an instruction that was executed lies in memory
located : (r : Registers) (m : Memory) → (r.location < 4000) ⊎ (outcome_of (instruction r) m ≡ fails (Outside (word_of Plus r.location)))
unfolding instruction
located r m = go (nat_lt r.location 4000) refl
  where
    go : (b : Bool) → nat_lt r.location 4000 ≡ b → (r.location < 4000) ⊎ (outcome_of (cond b (read r.location (λ w. program_of r w (number_m r w) (decoded (code_in w) (field_in w)))) (done (fails (Outside (word_of Plus r.location))))) m ≡ fails (Outside (word_of Plus r.location)))
    go true e = inl (ltb-true r.location 4000 e)
    go false e = inr refl

pub here : (r q : Registers) (m : Memory) (t : ℕ) (n : Next) → outcome_of (instruction r) m ≡ said t n q → Stays n r q → Here n q.location
here r q m t n o e = go n o e (located r m)
  where
    go : (n : Next) → outcome_of (instruction r) m ≡ said t n q → Stays n r q → (r.location < 4000) ⊎ (outcome_of (instruction r) m ≡ fails (Outside (word_of Plus r.location))) → Here n q.location
    go (Goes j) o e l = tt
    go (Tests u b to) o e (inl l) = let i = ap (λ (r : Registers). r.location) e in omega arith
    go (Waits u) o e (inl l) = let i = ap (λ (r : Registers). r.location) e in omega arith
    go (Issues u x v) o e (inl l) = let i = ap (λ (r : Registers). r.location) e in omega arith
    go Halts o e (inl l) = let i = ap (λ (r : Registers). r.location) e in omega arith
    go (Tests u true to) o e (inr f) = absurd (cc (sym f ∙ o))
    go (Tests u false to) o e (inr f) = absurd (cc (sym f ∙ o))
    go (Waits u) o e (inr f) = absurd (cc (sym f ∙ o))
    go (Issues u x v) o e (inr f) = absurd (cc (sym f ∙ o))
    go Halts o e (inr f) = absurd (cc (sym f ∙ o))

-- what is under way after transfers were carried out was so before
soon_drained : (t b by : ℕ) (c d : Core) → t < b → ((u : ℕ) → later t (c.states u) < b) → drain units by c ≡ clear d → (u : ℕ) → later t (d.states u) < b
soon_drained t b by c d l h e = subst (Held (λ u z. later t z < b) (λ u x. l)) e (drain_held (λ u z. later t z < b) (λ u x. l) units by c h)

small_more : (n : Counts) → Small (2 ^ 60) n → Small (2 ^ 61) n
small_more n h =
    let a = h.clock in let b = h.working_time in let c = h.waiting in let d = h.told in let f = h.working_steps in let g = h.waiting_steps in
    record { clock = omega arith; working_time = omega arith; waiting = omega arith; told = omega arith; working_steps = omega arith; waiting_steps = omega arith }

pub low_drained : (s : State) (c d : Core) → Low (2 ^ 60) s → drain units s.counts.clock s.core ≡ clear c → d.states ≡ c.states → Low (2 ^ 61) (record s { core = d })
low_drained s c d h e i =
    let a = h.counts.clock in
    record {
      counts = small_more s.counts h.counts;
      dues = λ u. subst (λ z. later s.counts.clock (z u) < 2 ^ 61) (sym i)
          (soon_drained s.counts.clock (2 ^ 61) s.counts.clock s.core c (omega arith) (λ v. let b = h.dues v in omega arith) e u);
    }
