-- The memory of a deck, filled word by word.
use Rattle.std.proofs.Common.{◌≡◌, ℕ, ◌+◌, ◌<◌, Bool, true, false, eqb, ltb, List, length, set, sym, refl, ap, ◌∙◌, inl, inr, arith}
use Rattle.std.proofs.lemmas.Bool.{cases_eq, cond-false, cond-true, eq-eqb, lt-ltb, ne_eqb, ltb-true, ltb-false}
use Rattle.std.proofs.lemmas.List.{get_or_past, length-set}
use Rattle.std.specs.Option.{unwrap_or}
use Rattle.console.specs.Calls.{memory_of}
use Rattle.cpu.proofs.Cells.{cell_written}
use Rattle.cpu.specs.Executed.{cells}
use Rattle.cpu.specs.Programs.{stored}
use Rattle.mixal.specs.Ends.{Assembled}
use Rattle.mixal.specs.Image.{last_at}
use Rattle.word.specs.declared.sign.Sign.TheVariants.{Plus}
use Rattle.word.specs.declared.word.Word.{Word}
use Rattle.word.specs.Word.{word_of}

-- the words of the first n locations stand in 4,000
abbrev pub Filled : Assembled → List Word → ℕ → Type 0
Filled a ws n = (length ws ≡ 4000) × ((k : ℕ) → k < n → cells ws k ≡ memory_of a k)

in_memory : (a : Assembled) (n : ℕ) (w : Word) → n < 4000 → w ≡ unwrap_or (last_at n a.lines) (word_of Plus 0) → w ≡ memory_of a n
in_memory a n w h e = e ∙ sym (cond-true (ltb n 4000) _ (word_of Plus 0) (lt-ltb n 4000 h))

-- one word more
pub filled_more : (a : Assembled) (ws : List Word) (n i : ℕ) (w : Word) → i ≡ n → n < 4000 → Filled a ws n → w ≡ unwrap_or (last_at n a.lines) (word_of Plus 0) → Filled a (set ws i w) (n + 1)
unfolding stored
filled_more a ws n i w p h f e = (
  length-set ws i w ∙ f.0,
  λ k b. ap (λ (m : ℕ → Word). m k) (cell_written ws i n w p (let l = f.0 in omega (arith, l))) ∙ elim (cases_eq k n) [
    | inl q ↦ cond-true (eqb k n) w (cells ws k) (eq-eqb k n q) ∙ in_memory a n w h e ∙ ap (memory_of a) (sym q)
    | inr q ↦ cond-false (eqb k n) w (cells ws k) (ne_eqb k n q) ∙ f.1 k (omega (arith, q))
  ],
)

beyond : (a : Assembled) (ws : List Word) (k : ℕ) (b : Bool) → ltb k 4000 ≡ b → Filled a ws 4000 → cells ws k ≡ memory_of a k
unfolding cells
beyond a ws k true e f = f.1 k (ltb-true k 4000 e)
beyond a ws k false e f =
    get_or_past ws k (word_of Plus 0) (let h = ltb-false k 4000 e in let l = f.0 in omega (arith, l, h))
    ∙ sym (cond-false (ltb k 4000) (unwrap_or (last_at k a.lines) (word_of Plus 0)) (word_of Plus 0) e)

-- all of them
pub filled_all : (a : Assembled) (ws : List Word) → Filled a ws 4000 → cells ws ≡ memory_of a
filled_all a ws f = λ i k. beyond a ws k (ltb k 4000) refl f i
