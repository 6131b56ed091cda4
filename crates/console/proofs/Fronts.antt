-- The fronts of two sheets are told by what the law of two rooms says.
use Rattle.std.proofs.Common.{◌≡◌, ◌++◌, true, false, Bool, ap, sym, ◌∙◌, refl}
use Rattle.console.specs.Rooms.{SheetsAgree}
use Rattle.machine.specs.Steps.{State, j_word}
use Rattle.machine.specs.declared.j.J.{J}
use Rattle.rooms.specs.Rooms.{Agree, Both}
use Rattle.sheet.specs.Sheet.{block_lines, clock_line, front_of, indicator_line, j_line, j_line_if, mark_line, memory_text, numbers_line, registers_text, toggle_line}
use Rattle.word.specs.Word.{word_of}
use Rattle.word.specs.declared.sign.Sign.TheVariants.{Plus}

-- J's line, where J is settled in both or in neither, and where it is settled the same
j_same : (j k : J) (b : Bool) → j.settled ≡ b → j.settled ≡ k.settled → (j.settled ≡ true → j.location ≡ k.location) → j_line j ≡ j_line k
j_same j k true e p q = λ i. j_line_if (p i) (word_of Plus (q e i))
j_same j k false e p q = ap (λ b. j_line_if b (j_word j)) e ∙ ap (λ b. j_line_if b (j_word k)) (sym e ∙ p)

front_same : (s t : State) → Agree s t → s.mark ≡ t.mark → front_of s ≡ front_of t
front_same s t a mark = λ i.
    block_lines 80 18 (a.units 18 i)
    ++ block_lines 67 17 (a.units 17 i)
    ++ mark_line (mark i)
    ++ registers_text (a.registers i)
    ++ j_same s.j t.j s.j.settled refl a.settled a.j i
    ++ toggle_line (a.registers i).overflow
    ++ indicator_line (a.registers i).indicator
    ++ memory_text (λ l. a.memory l i)
    ++ numbers_line "WORK" (a.working_steps i) (a.working_time i)

pub sheets_of : (s t : State) → Both s t → SheetsAgree s t
sheets_of s t b halts clean ends =
    let f = front_same s t (b.agree halts clean ends) (clean ∙ sym (b.follows halts clean).no_mark) in
    record { front = f; first = refl; second = ap (λ x. x ++ clock_line t.counts) (sym f) }
