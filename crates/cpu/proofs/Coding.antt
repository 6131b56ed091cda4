-- The times of operations, by the C that they have.
use Rattle.std.proofs.Common.{◌≡◌, ℕ, zero, suc, ◌*◌, ◌<◌, ◌≤◌, Bool, true, ◌&&◌, leb, Some, None, Option, IfSome, inl, inr, ◌==◌, refl, ap, arith, rules, tests}
use Rattle.std.proofs.lemmas.Bool.{cases_eq, cond-false, le-leb, leb-true, ne_eqb}
use Rattle.std.proofs.lemmas.Bool.Decides.{Decides-below_and}
use Rattle.names.specs.Times.{base_time, time_of, times}
use Rattle.names.proofs.Clock.{time_laws}
use Rattle.rack.specs.declared.unit.Unit.{Unit}
use Rattle.cpu.specs.declared.operation.Operation.{Operation}
use Rattle.cpu.specs.declared.operation.Operation.TheVariants.{Halt, JumpBusy, Control, Input, Output, JumpReady}
use Rattle.cpu.specs.Decoding.{decoded}

-- the codes of HLT and of the operations on units

halt_code : (c f : ℕ) → decoded c f ≡ Some Halt → c ≡ 5
unfolding decoded
halt_code c f e = search (rules, tests)

busy_code : (c f : ℕ) (u : Unit) → decoded c f ≡ Some (JumpBusy u) → c ≡ 34
unfolding decoded
busy_code c f u e = search (rules, tests)

control_code : (c f : ℕ) (u : Unit) → decoded c f ≡ Some (Control u) → c ≡ 35
unfolding decoded
control_code c f u e = search (rules, tests)

input_code : (c f : ℕ) (u : Unit) → decoded c f ≡ Some (Input u) → c ≡ 36
unfolding decoded
input_code c f u e = search (rules, tests)

output_code : (c f : ℕ) (u : Unit) → decoded c f ≡ Some (Output u) → c ≡ 37
unfolding decoded
output_code c f u e = search (rules, tests)

ready_code : (c f : ℕ) (u : Unit) → decoded c f ≡ Some (JumpReady u) → c ≡ 38
unfolding decoded
ready_code c f u e = search (rules, tests)

-- an instruction's time fits
pub record Fits (t : ℕ) : Type 0 where
  pub some : 1 ≤ t
  pub few : t ≤ 127

-- the codes below n take at most 12
abbrev short : ℕ → Bool
short zero = true
short (suc n) = leb (base_time n) 12 && short n

all_short : short 64 ≡ true
unfolding times
all_short = refl

base_short : (k : ℕ) → k < 64 → base_time k ≤ 12
base_short = (Decides-below_and (λ k. leb (base_time k) 12) (λ k. base_time k ≤ 12) short (λ k. (leb-true (base_time k) 12, le-leb (base_time k) 12)) refl (λ _. refl) 64).0 all_short

pub time_fits : (c f : ℕ) → c < 64 → f < 64 → Fits (time_of c f)
time_fits c f h g = record {
  some = time_laws.some c f h;
  few = elim (cases_eq c 7) [
    | inl e ↦ rw (e, time_laws.move f) (omega arith)
    | inr n ↦ let b = base_short c h in let z = cond-false (c == 7) (2 * f) 0 (ne_eqb c 7 n) in omega arith
  ];
}

-- the time that an operation has for any F, if it is told
abbrev pub fixed : Operation → Option ℕ
fixed Halt = Some 10
fixed (JumpBusy u) = Some 1
fixed (Control u) = Some 1
fixed (Input u) = Some 1
fixed (Output u) = Some 1
fixed (JumpReady u) = Some 1
fixed _ = None

pub time_fixed : (c f : ℕ) (p : Operation) → decoded c f ≡ Some p → IfSome (fixed p) (λ n. time_of c f ≡ n)
unfolding times
time_fixed c f Halt e = ap (λ k. time_of k f) (halt_code c f e)
time_fixed c f (JumpBusy u) e = ap (λ k. time_of k f) (busy_code c f u e)
time_fixed c f (Control u) e = ap (λ k. time_of k f) (control_code c f u e)
time_fixed c f (Input u) e = ap (λ k. time_of k f) (input_code c f u e)
time_fixed c f (Output u) e = ap (λ k. time_of k f) (output_code c f u e)
time_fixed c f (JumpReady u) e = ap (λ k. time_of k f) (ready_code c f u e)
time_fixed c f _ e = tt
