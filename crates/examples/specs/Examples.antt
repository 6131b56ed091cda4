-- The table of worked examples: what each gives.
use Rattle.std.specs.Prelude.{ℕ, Some, Ok, Err, Result, [], ◌∷◌}
use Rattle.word.specs.Word.{word_of, word_from}
use Rattle.word.specs.declared.sign.Sign.TheVariants.{Plus, Minus}
use Rattle.cpu.specs.declared.fault.Fault.{Fault as Rejection}
use Rattle.cpu.specs.declared.fault.Fault.TheVariants.{Outside}
use Rattle.cpu.specs.declared.step.Span.{Span}
use Rattle.cpu.specs.Instructions.{location_of}
use Rattle.flights.specs.Issues.{area_at}
use Rattle.flights.specs.declared.fault.Fault.{Fault}
use Rattle.flights.specs.declared.fault.Fault.TheVariants.{Instruction}
use Rattle.examples.specs.declared.outcomes.Worked.{Worked}

-- the area of an IN from a location on, on a reader that is present
abbrev pub area_or_fault : Result Span Rejection → Result Span Fault
area_or_fault (Ok s) = Ok s
area_or_fault (Err f) = Err (Instruction f)

abbrev pub area_of_input : ℕ → Result Span Fault
area_of_input l = area_or_fault (area_at 16 (word_of Plus l) (location_of (word_of Plus l)))

unfoldable pub table : Worked
table =
    record {
      -- A + 1 2 3 4 5 and X - 6 7 8 9 10, after SRAX 1, SLA 2, SRC 4, SRA 2, SLC 501
      shifts = record { a = word_from Plus (0 ∷ 6 ∷ 7 ∷ 8 ∷ 3 ∷ []); x = word_from Minus (4 ∷ 0 ∷ 0 ∷ 5 ∷ 0 ∷ []) };
      -- -112 times 2
      product = record { a = word_of Minus 0; x = word_of Minus 224 };
      -- AX 17 by 3
      quotient = Some (record { a = word_of Plus 5; x = word_of Plus 2 });
      -- -1+5*20/6
      expression = Some (word_of Plus 13);
      -- 1//3
      fraction = Some (word_of Plus 357913941);
      -- 1,-1000(0:2)
      fields = Some (word_from Minus (15 ∷ 40 ∷ 0 ∷ 0 ∷ 1 ∷ []));
      -- IN 3984(16) fits
      last_area = Ok (record { start = 3984; count = 16 });
      -- IN 3985(16) is rejected: location 4000 is outside
      past_the_end = Err (Instruction (Outside (word_of Plus 4000)));
    }
