use Rattle.std.proofs.Common.{◌≡◌, ℕ, ◌/◌, List, [], get_or, take, is_some, sym, ap, ◌∙◌, length-set, arith}
use Rattle.std.specs.Simd.{first_chunks}
use Rattle.card.specs.Text.{text_word}
use Rattle.card.proofs.Parts.{none_cases}
use Rattle.card.proofs.Blocks.{one_more, words_read, words_none, words_back, some_words}
use Rattle.card.proofs.cards.words_in.Goals as goal

pub loop-i-preserved : goal.loop-i-preserved
loop-i-preserved c = (
  length-set c.loop-i.words c.loop-i.i c.in_ok-words.field-0 ∙ c.loop-i.invariant.0,
  one_more c.in_ok-fives.fives.now c.loop-i.words c.loop-i.i c.in_ok-words.field-0 (omega arith) c.in_ok-words.ensures.word c.loop-i.invariant.1,
)

pub returns-in_err-words : goal.returns-in_err-words
returns-in_err-words c =
    let bs = c.args.columns.now in
    let f : c.in_ok-fives.fives.now ≡ first_chunks 5 16 bs = c.in_ok-fives.ensures.cases.same ∙ ap (take 16) (c.as_chunks.ensures.front ∙ ap (λ (n : ℕ). first_chunks 5 (n / 5) bs) c.told-columns) in
    let e = c.from_residual-in_err-words.ensures ∙ sym (words_none 16 bs c.loop-i.i (omega arith) (ap (λ (l : List (List ℕ)). text_word (get_or l c.loop-i.i [])) (sym f) ∙ sym c.in_err-words.ensures.word)) in
    record { words = e; coded = ap is_some e ∙ some_words 16 bs c.told-columns; text = none_cases c.from_residual-in_err-words.result _ c.from_residual-in_err-words.ensures }

pub returns : goal.returns
returns c =
    let bs = c.args.columns.now in
    let f : c.in_ok-fives.fives.now ≡ first_chunks 5 16 bs = c.in_ok-fives.ensures.cases.same ∙ ap (take 16) (c.as_chunks.ensures.front ∙ ap (λ (n : ℕ). first_chunks 5 (n / 5) bs) c.told-columns) in
    let e = sym (words_read 16 bs c.loop-i.words c.loop-i.invariant.0 (λ j k. ap (λ (l : List (List ℕ)). text_word (get_or l j [])) (sym f) ∙ c.loop-i.invariant.1 j (omega arith))) in
    record { words = e; coded = ap is_some e ∙ some_words 16 bs c.told-columns; text = words_back 16 bs c.loop-i.words c.told-columns (sym e) }
