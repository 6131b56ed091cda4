-- A list of words as a memory: reads and writes.
use Rattle.std.proofs.Common.{◌≡◌, ℕ, ◌<◌, eqb, List, length, get_or, set, sym, refl, ap, ◌∙◌, inl, inr}
use Rattle.std.proofs.lemmas.Bool.{cases_eq, cond-false, cond-true, eq-eqb, ne_eqb}
use Rattle.std.proofs.lemmas.List.{get_or_default, get_or-set_same, get_or-set_other}
use Rattle.word.specs.declared.word.Word.{Word}
use Rattle.word.specs.declared.sign.Sign.TheVariants.{Plus}
use Rattle.word.specs.Word.{word_of}
use Rattle.cpu.specs.Executed.{cells}
use Rattle.cpu.specs.Programs.{stored}

-- a word that is read
pub cell_read : (ws : List Word) (l : ℕ) (w : Word) → w ≡ get_or ws l w → l < length ws → w ≡ cells ws l
unfolding cells
cell_read ws l w e h = e ∙ get_or_default ws l w (word_of Plus 0) h

-- a word that is written
written : (ws : List Word) (l k : ℕ) (w : Word) → l < length ws → cells (set ws l w) k ≡ stored (cells ws) l w k
unfolding cells stored
written ws l k w h = elim (cases_eq k l) [
  | inl e ↦ rw e (get_or-set_same ws l w (word_of Plus 0) h ∙ sym (cond-true (eqb l l) w _ (eq-eqb l l refl)))
  | inr n ↦ get_or-set_other ws l k w (word_of Plus 0) n ∙ sym (cond-false (eqb k l) w _ (ne_eqb k l n))
]

pub cell_written : (ws : List Word) (n l : ℕ) (w : Word) → n ≡ l → l < length ws → cells (set ws n w) ≡ stored (cells ws) l w
cell_written ws n l w e h = ap (λ k. cells (set ws k w)) e ∙ (λ i k. written ws l k w h i)
