-- The sheet of a machine that was closed, as text.
use Rattle.std.specs.Prelude.{ℕ, true, false, Bool, cond, ◌&&◌, List, [], ◌∷◌, ◌++◌, length, Some, None, Option, codes, decimal, ◌==◌}
use Prim.Native.String.{String}
use Rattle.std.specs.List.{flat_map}
use Rattle.std.specs.declared.cmp.Ordering.{Ordering}
use Rattle.std.specs.declared.cmp.Ordering.TheVariants.{Less, Equal, Greater}
use Rattle.card.specs.Lines.{trimmed}
use Rattle.cpu.specs.Executed.{row}
use Rattle.cpu.specs.Programs.{Memory}
use Rattle.cpu.specs.Registers.{held}
use Rattle.cpu.specs.declared.register.Register.TheVariants.{A, I1, I2, I3, I4, I5, I6, X}
use Rattle.cpu.specs.declared.registers.Registers.{Registers}
use Rattle.flights.specs.Watch.{kind_number}
use Rattle.flights.specs.declared.mark.Mark.{Mark}
use Rattle.lines.specs.Lines.{word_digits, memory_line}
use Rattle.machine.specs.Steps.{State, j_word}
use Rattle.machine.specs.declared.counts.Counts.{Counts}
use Rattle.machine.specs.declared.j.J.{J}
use Rattle.rack.specs.Units.{Holding, columns, text_of_unit}
use Rattle.word.specs.Sign.{like}
use Rattle.word.specs.declared.sign.Sign.TheVariants.{Plus}
use Rattle.word.specs.declared.word.Word.{Word}

-- a line: a text and its end
abbrev pub line : List ℕ → List ℕ
line text = text ++ (10 ∷ [])

-- two numbers after a label
abbrev pub numbers_line : String → ℕ → ℕ → List ℕ
numbers_line label m n = line (codes label ++ (32 ∷ (decimal m ++ (32 ∷ decimal n))))

-- how many blocks a unit has
abbrev pub count_of : Option Holding → ℕ
count_of None = 0
count_of (Some h) = length h.blocks

-- the lines of a unit's blocks: a letter, and the text; blanks at the end go
abbrev pub block_line : ℕ → List ℕ → List ℕ
block_line letter text = line (trimmed (letter ∷ 32 ∷ text))

abbrev pub block_lines : ℕ → ℕ → Option Holding → List ℕ
block_lines letter u h = flat_map (λ p. block_line letter (columns (text_of_unit u h p))) (row 0 (count_of h))

-- a mark: its kind, unit and location
abbrev pub marked_line : Mark → List ℕ
marked_line m =
    line (codes "MARK " ++ (decimal (kind_number m.kind) ++ (32 ∷ (decimal m.unit.number ++ (32 ∷ decimal m.location)))))

-- whether the watch vouches for the deck, or its mark
abbrev pub mark_line : Option Mark → List ℕ
mark_line None = line (codes "CLEAN")
mark_line (Some m) = marked_line m

-- +0, which is not shown
abbrev pub is_plus_zero : Word → Bool
is_plus_zero w = like w.sign Plus && w.magnitude == 0

abbrev pub word_line : List ℕ → Word → List ℕ
word_line label w = line (label ++ (32 ∷ word_digits w))

abbrev pub register_line : List ℕ → Word → List ℕ
register_line label w = cond (is_plus_zero w) [] (word_line label w)

abbrev pub registers_text : Registers → List ℕ
registers_text r =
    register_line (codes "A") (held r A)
    ++ register_line (codes "I1") (held r I1)
    ++ register_line (codes "I2") (held r I2)
    ++ register_line (codes "I3") (held r I3)
    ++ register_line (codes "I4") (held r I4)
    ++ register_line (codes "I5") (held r I5)
    ++ register_line (codes "I6") (held r I6)
    ++ register_line (codes "X") (held r X)

-- J's word, or that it is unsettled
abbrev pub j_line_if : Bool → Word → List ℕ
j_line_if true w = word_line (codes "J") w
j_line_if false w = line (codes "J UNSETTLED")

abbrev pub j_line : J → List ℕ
j_line j = j_line_if j.settled (j_word j)

-- the toggle and the indicator
abbrev pub toggle_line : Bool → List ℕ
toggle_line true = line (codes "OV ON")
toggle_line false = line (codes "OV OFF")

abbrev pub indicator_line : Ordering → List ℕ
indicator_line Less = line (codes "CI L")
indicator_line Equal = line (codes "CI E")
indicator_line Greater = line (codes "CI G")

-- the words of memory that are not +0, by location
abbrev pub memory_line_if : ℕ → Word → List ℕ
memory_line_if l w = cond (is_plus_zero w) [] (memory_line l w)

abbrev pub words_text : Memory → ℕ → List ℕ
words_text m n = flat_map (λ l. memory_line_if l (m l)) (row 0 n)

unfoldable pub memory_text : Memory → List ℕ
memory_text m = words_text m 4000

abbrev pub work_line : Counts → List ℕ
work_line n = numbers_line "WORK" n.working_steps n.working_time

abbrev pub clock_line : Counts → List ℕ
clock_line n = numbers_line "CLOCK" n.clock n.waiting

-- all lines but the last: the printer's, the punch's, the mark, the registers, J, toggle, indicator, memory, work
abbrev pub front_of : State → List ℕ
front_of s =
    block_lines 80 18 (s.core.units 18)
    ++ block_lines 67 17 (s.core.units 17)
    ++ mark_line s.mark
    ++ registers_text s.core.registers
    ++ j_line s.j
    ++ toggle_line s.core.registers.overflow
    ++ indicator_line s.core.registers.indicator
    ++ memory_text s.core.memory
    ++ work_line s.counts

-- the sheet
abbrev pub sheet_of : State → List ℕ
sheet_of s = front_of s ++ clock_line s.counts
