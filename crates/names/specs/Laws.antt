-- What holds of the whole table.
use Rattle.std.specs.Prelude.{◌≡◌, ℕ, ◌-◌, ◌<◌, ◌≤◌, true, false, ◌⊎◌, List, [], ◌∷◌, ◌++◌, length, replicate, Some, None, Option}
use Rattle.std.specs.List.{AllByRecursion}
use Rattle.names.specs.declared.kinds.Instruction.{Instruction}
use Rattle.names.specs.declared.kinds.Operation.{Operation}
use Rattle.names.specs.declared.kinds.Operation.TheVariants.{Machine}
use Rattle.names.specs.Names.{Line, table, operation_of, name_of, instruction_of, missing_field, lists_field}

-- a line stands in a table
abbrev pub Stands : List Line → Line → Type 0
Stands [] l = ⊥
Stands (m ∷ ms) l = (m ≡ l) ⊎ Stands ms l

-- a letter or a digit
abbrev pub Mark : ℕ → Type 0
Mark x = ((65 ≤ x) × (x ≤ 90)) ⊎ ((48 ≤ x) × (x ≤ 57))

-- one to four letters and digits, and blanks up to the fourth column
pub record Spelled (w : List ℕ) : Type 0 where
  pub marks : List ℕ
  pub some : 1 ≤ length marks
  pub few : length marks ≤ 4
  pub plain : AllByRecursion Mark marks
  pub blanks : w ≡ marks ++ replicate (4 - length marks) 32

pub record NameLaws : Type 0 where
  -- each line is found by its name: no name stands twice
  pub found : (l : Line) → Stands table l → operation_of l.0 ≡ Some l.1
  -- what is found stands in the table
  pub only : (w : List ℕ) (o : Operation) → operation_of w ≡ Some o → Stands table (w, o)
  -- a name that is found is well spelled
  pub spelled : (w : List ℕ) (o : Operation) → operation_of w ≡ Some o → Spelled w
  -- a field that is not listed is the missing one
  pub missing : (w : List ℕ) (i : Instruction) → operation_of w ≡ Some (Machine i) → lists_field i.c ≡ false → i.f ≡ missing_field i.c
  -- the name of an operation is found again by its code and field
  pub named : (w : List ℕ) (i : Instruction) → operation_of w ≡ Some (Machine i) → name_of i.c i.f ≡ Some w
  -- and a name that is so found stands for that code, and for that field where it is listed
  pub again : (k n : ℕ) (w : List ℕ) → name_of k n ≡ Some w → (i : Instruction) × (operation_of w ≡ Some (Machine i)) × (i.c ≡ k) × (lists_field k ≡ true → i.f ≡ n)
  -- each code has a name
  pub each_code : (k : ℕ) → k < 64 → (n : ℕ) × (w : List ℕ) × (name_of k n ≡ Some w)

-- the code and the field of an instruction are bytes of a word
abbrev pub Fit : Option Instruction → Type 0
Fit None = Unit {0}
Fit (Some i) = (i.c < 64) × (i.f < 64)

-- so they are in what is found
abbrev pub Bytes : Option Operation → Type 0
Bytes None = Unit {0}
Bytes (Some o) = Fit (instruction_of o)
