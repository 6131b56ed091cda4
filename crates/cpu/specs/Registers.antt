-- Registers: what each holds, and the registers after one is changed.
use Rattle.std.specs.Prelude.{ℕ, suc, ◌%◌, ◌≤◌, Bool, true, ◌||◌, nat_le}
use Rattle.std.proofs.Common.{arith}
use Rattle.arith.specs.declared.pair.Pair.{Pair}
use Rattle.word.specs.declared.index.Index.{Index}
use Rattle.word.specs.declared.word.Word.{Word}
use Rattle.word.specs.Word.{word_of}
use Rattle.cpu.specs.declared.register.Register.{Register}
use Rattle.cpu.specs.declared.register.Register.TheVariants.{A, I1, I2, I3, I4, I5, I6, X}
use Rattle.cpu.specs.declared.registers.Registers.{Registers}

-- an index register as a word
abbrev pub index_word : Index → Word
index_word i = word_of i.sign i.magnitude

-- what a register holds
abbrev pub held : Registers → Register → Word
held r A = r.a
held r I1 = index_word r.i1
held r I2 = index_word r.i2
held r I3 = index_word r.i3
held r I4 = index_word r.i4
held r I5 = index_word r.i5
held r I6 = index_word r.i6
held r X = r.x

-- whether a register has room for a word: index registers take magnitudes up to 4,095
abbrev pub fits : Register → Word → Bool
fits A w = true
fits I1 w = nat_le w.magnitude 4095
fits I2 w = nat_le w.magnitude 4095
fits I3 w = nat_le w.magnitude 4095
fits I4 w = nat_le w.magnitude 4095
fits I5 w = nat_le w.magnitude 4095
fits I6 w = nat_le w.magnitude 4095
fits X w = true

unfoldable pub small_index : (m : ℕ) → m % 4096 ≤ 4095
small_index m = omega arith

-- the index of a word that fits; of any other the part below 4,096
unfoldable pub index_of : Word → Index
index_of w = record { sign = w.sign; magnitude = w.magnitude % 4096; small = small_index w.magnitude }

-- the registers with a word in one of them
abbrev pub changed : Registers → Register → Word → Registers
changed r A w = record r { a = w }
changed r I1 w = record r { i1 = index_of w }
changed r I2 w = record r { i2 = index_of w }
changed r I3 w = record r { i3 = index_of w }
changed r I4 w = record r { i4 = index_of w }
changed r I5 w = record r { i5 = index_of w }
changed r I6 w = record r { i6 = index_of w }
changed r X w = record r { x = w }

-- A and X together
abbrev pub pair_in : Registers → Pair
pair_in r = record { a = r.a; x = r.x }

abbrev pub with_pair : Registers → Pair → Registers
with_pair r p = record r { a = p.a; x = p.x }

-- the toggle goes on where a sum was too large
abbrev pub toggled : Bool → Registers → Registers
toggled b r = record r { overflow = r.overflow || b }

-- the next instruction is the one after this, or the one at a location
abbrev pub onward : Registers → Registers
onward r = record r { location = suc r.location }

abbrev pub going_to : ℕ → Registers → Registers
going_to l r = record r { location = l }
