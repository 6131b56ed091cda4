-- A sheet tells the record.
use Rattle.std.proofs.Common.{◌≡◌, ℕ, ◌<◌, ◌≤◌, List, ◌++◌, sym, refl, ◌∙◌, arith}
use Rattle.std.proofs.lemmas.List.{append_assoc}
use Rattle.std.specs.Prelude.{codes}
use Rattle.machine.specs.Steps.{State, j_word}
use Rattle.rack.specs.Units.{columns, text_of_unit}
use Rattle.sheet.specs.Record.{InRange, SameRecord}
use Rattle.sheet.specs.Sheet.{block_line, block_lines, clock_line, count_of, indicator_line, j_line, mark_line, memory_text, registers_text, sheet_of, toggle_line, work_line}
use Rattle.sheet.proofs.Columns.{block_told, length_columns, printed, punched, without_columns, without_text}
use Rattle.sheet.proofs.Cuts.{Without, without_tested}
use Rattle.sheet.proofs.Digits.{location_told}
use Rattle.sheet.proofs.Labels.{memory_cut, registers_cut}
use Rattle.sheet.proofs.Ranks.{IsLine, Ranked, line_cut, many_cut, many_rank, rank}
use Rattle.sheet.proofs.Singles.{indicator_is_line, indicator_told, j_is_line, j_rank, j_told, mark_is_line, mark_rank, mark_told, numbers_is_line, numbers_told, toggle_is_line, toggle_told}

-- what follows each of a sheet's parts
abbrev after_memory : State → List ℕ
after_memory s = work_line s.counts ++ clock_line s.counts

abbrev after_indicator : State → List ℕ
after_indicator s = memory_text s.core.memory ++ after_memory s

abbrev after_toggle : State → List ℕ
after_toggle s = indicator_line s.core.registers.indicator ++ after_indicator s

abbrev after_j : State → List ℕ
after_j s = toggle_line s.core.registers.overflow ++ after_toggle s

abbrev after_registers : State → List ℕ
after_registers s = j_line s.j ++ after_j s

abbrev after_mark : State → List ℕ
after_mark s = registers_text s.core.registers ++ after_registers s

abbrev after_punch : State → List ℕ
after_punch s = mark_line s.mark ++ after_mark s

abbrev after_printer : State → List ℕ
after_printer s = block_lines 67 17 (s.core.units 17) ++ after_punch s

ten : (a b c d e f g h i j : List ℕ) → (a ++ b ++ c ++ d ++ e ++ f ++ g ++ h ++ i) ++ j ≡ a ++ (b ++ (c ++ (d ++ (e ++ (f ++ (g ++ (h ++ (i ++ j))))))))
ten a b c d e f g h i j = simp append_assoc

in_parts : (s : State) → sheet_of s ≡ block_lines 80 18 (s.core.units 18) ++ after_printer s
in_parts s =
    ten (block_lines 80 18 (s.core.units 18)) (block_lines 67 17 (s.core.units 17)) (mark_line s.mark) (registers_text s.core.registers) (j_line s.j)
    (toggle_line s.core.registers.overflow) (indicator_line s.core.registers.indicator) (memory_text s.core.memory) (work_line s.counts) (clock_line s.counts)

-- the text of a block
abbrev text : ℕ → State → ℕ → List ℕ
text u s p = columns (text_of_unit u (s.core.units u) p)

text_whole : (u : ℕ) (s : State) (p : ℕ) → Without 10 (text u s p)
text_whole u s p = without_columns (text_of_unit u (s.core.units u) p) (without_text u (s.core.units u) p)

text_told : (l u : ℕ) (s t : State) (p : ℕ) → (l ≡ 32 → ⊥) → (l ≡ 10 → ⊥) → block_line l (text u s p) ≡ block_line l (text u t p) → text u s p ≡ text u t p
text_told l u s t p g h e =
    block_told l (text u s p) (text u t p) g h (length_columns (text_of_unit u (s.core.units u) p) ∙ sym (length_columns (text_of_unit u (t.core.units u) p))) (text_whole u s p) (text_whole u t p) e

lines_printed : (s : State) (p : ℕ) → Ranked 0 (block_line 80 (text 18 s p))
lines_printed s p = printed (text 18 s p) (text_whole 18 s p)

lines_punched : (s : State) (p : ℕ) → Ranked 1 (block_line 67 (text 17 s p))
lines_punched s p = punched (text 17 s p) (text_whole 17 s p)

above_punch : (s : State) → 1 < rank (after_punch s)
above_punch s = omega (arith, mark_rank s.mark (after_mark s))

above_printer : (s : State) → 0 < rank (after_printer s)
above_printer s =
    many_rank 1 (λ p. block_line 67 (text 17 s p)) 0 (count_of (s.core.units 17)) (after_punch s) (lines_punched s) (let h = above_punch s in omega arith)

above_registers : (s : State) → 11 ≤ rank (after_registers s)
above_registers s = omega (arith, j_rank s.j (after_j s))

above_memory : (s : State) → 10000 ≤ rank (after_memory s)
above_memory s = omega arith

work_is_line : (s : State) → InRange s → IsLine (work_line s.counts)
work_is_line s h = numbers_is_line (codes "WORK") s.counts.working_steps s.counts.working_time (without_tested 10 (codes "WORK") refl) h.working_steps h.working_time

pub told : (s t : State) → InRange s → InRange t → sheet_of s ≡ sheet_of t → SameRecord s t
told s t h k e =
    let b =
    many_cut 0 (λ p. block_line 80 (text 18 s p)) (λ p. block_line 80 (text 18 t p)) 0 (count_of (s.core.units 18)) (count_of (t.core.units 18)) (after_printer s) (after_printer t)
    (lines_printed s) (lines_printed t) (above_printer s) (above_printer t) (sym (in_parts s) ∙ e ∙ in_parts t) in
    let c =
    many_cut 1 (λ p. block_line 67 (text 17 s p)) (λ p. block_line 67 (text 17 t p)) 0 (count_of (s.core.units 17)) (count_of (t.core.units 17)) (after_punch s) (after_punch t)
    (lines_punched s) (lines_punched t) (above_punch s) (above_punch t) b.2 in
    let m = line_cut (mark_line s.mark) (mark_line t.mark) (after_mark s) (after_mark t) (mark_is_line s.mark h.mark) (mark_is_line t.mark k.mark) c.2 in
    let r = registers_cut s.core.registers t.core.registers (after_registers s) (after_registers t) (above_registers s) (above_registers t) m.1 in
    let j = line_cut (j_line s.j) (j_line t.j) (after_j s) (after_j t) (j_is_line s.j) (j_is_line t.j) r.1 in
    let o =
    line_cut (toggle_line s.core.registers.overflow) (toggle_line t.core.registers.overflow) (after_toggle s) (after_toggle t)
    (toggle_is_line s.core.registers.overflow) (toggle_is_line t.core.registers.overflow) j.1 in
    let i =
    line_cut (indicator_line s.core.registers.indicator) (indicator_line t.core.registers.indicator) (after_indicator s) (after_indicator t)
    (indicator_is_line s.core.registers.indicator) (indicator_is_line t.core.registers.indicator) o.1 in
    let y = memory_cut s.core.memory t.core.memory (after_memory s) (after_memory t) (above_memory s) (above_memory t) i.1 in
    let w = line_cut (work_line s.counts) (work_line t.counts) (clock_line s.counts) (clock_line t.counts) (work_is_line s h) (work_is_line t k) y.1 in
    let jj = j_told s.j.settled t.j.settled (j_word s.j) (j_word t.j) j.0 in
    let ww =
    numbers_told (codes "WORK") s.counts.working_steps s.counts.working_time t.counts.working_steps t.counts.working_time
    (without_tested 10 (codes "WORK") refl) h.working_steps h.working_time k.working_steps k.working_time w.0 in
    let kk =
    numbers_told (codes "CLOCK") s.counts.clock s.counts.waiting t.counts.clock t.counts.waiting
    (without_tested 10 (codes "CLOCK") refl) h.clock h.waiting k.clock k.waiting w.1 in
    record {
      memory = y.0;
      registers = r.0;
      overflow = toggle_told s.core.registers.overflow t.core.registers.overflow o.0;
      indicator = indicator_told s.core.registers.indicator t.core.registers.indicator i.0;
      settled = jj.0;
      j = λ d. location_told s.j.location t.j.location h.j k.j (jj.1 d);
      mark = mark_told s.mark t.mark h.mark k.mark m.0;
      working_steps = ww.0;
      working_time = ww.1;
      clock = kk.0;
      waiting = kk.1;
      printer = record {
        count = b.0;
        text = λ p l. text_told 80 18 s t p (λ d. omega arith) (λ d. omega arith) (b.1 p (omega arith) (omega arith));
      };
      punch = record {
        count = c.0;
        text = λ p l. text_told 67 17 s t p (λ d. omega arith) (λ d. omega arith) (c.1 p (omega arith) (omega arith));
      };
    }
