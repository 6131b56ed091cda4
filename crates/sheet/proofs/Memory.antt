-- The words of memory, read and shown.
use Rattle.std.proofs.Common.{◌≡◌, ℕ, ◌<◌, List, length, get_or, ap, ◌∙◌}
use Rattle.std.proofs.lemmas.List.{get_or_default}
use Rattle.cpu.specs.Executed.{cells}
use Rattle.cpu.specs.Programs.{Memory}
use Rattle.word.specs.declared.sign.Sign.TheVariants.{Plus}
use Rattle.word.specs.declared.word.Word.{Word}
use Rattle.word.specs.Word.{word_of}
use Rattle.sheet.specs.Sheet.{memory_text, words_text}

-- the lines of all
pub words_all : (m : Memory) (n : ℕ) → n ≡ 4000 → words_text m n ≡ memory_text m
unfolding memory_text
words_all m n e = ap (words_text m) e

-- a word that is read
pub cell_read : (ws : List Word) (l i : ℕ) (w : Word) → i ≡ l → l < length ws → get_or ws i w ≡ cells ws l
unfolding cells
cell_read ws l i w e h = ap (λ (k : ℕ). get_or ws k w) e ∙ get_or_default ws l w (word_of Plus 0) h
