-- What any two rooms have in common that one deck was loaded in, their sheets among it.
use Rattle.std.specs.Prelude.{◌≡◌, ℕ, List, ◌++◌, None}
use Rattle.console.specs.Calls.{loaded_with}
use Rattle.machine.specs.Runs.{Session}
use Rattle.machine.specs.Steps.{State}
use Rattle.machine.specs.declared.call.Call.{Call}
use Rattle.machine.specs.declared.phase.Phase.TheVariants.{Halted}
use Rattle.mixal.specs.Ends.{Assembled}
use Rattle.rack.specs.Units.{Holdings, EqualUnits}
use Rattle.rack.specs.declared.request.Request.{Request}
use Rattle.rooms.specs.Rooms.{Both}
use Rattle.sheet.specs.Sheet.{clock_line, front_of, sheet_of}

-- two sheets are the same bytes but for the CLOCK line: there is one front, and each sheet is that front and the
-- line of its own clock
pub record SameButClock (s t : State) : Type 0 where
  pub front : front_of s ≡ front_of t
  pub first : sheet_of s ≡ front_of s ++ clock_line s.counts
  pub second : sheet_of t ≡ front_of s ++ clock_line t.counts

-- so it is where both have halted, First without a mark
abbrev pub SheetsAgree : State → State → Type 0
SheetsAgree s t = s.phase ≡ Halted → s.mark ≡ None → t.phase ≡ Halted → SameButClock s t

-- the law of two rooms, for one deck that was loaded where the units were equal: whoever made the calls, one by
-- one or as a list, and whichever they were
pub record RoomsAgree (s t : State) : Type 0 where
  pub both : Both s t
  pub sheets : SheetsAgree s t

abbrev pub OneDeck : {R S : Type 0} → (R → Holdings) → (R → Request → ℕ) → (S → Holdings) → (S → Request → ℕ) → Type 0
OneDeck holds tells holds′ tells′ =
    (a : Assembled) (g h : Holdings) (cs ds : List Call) (s t : State)
    → EqualUnits g h
    → Session holds tells cs (loaded_with a g) s
    → Session holds′ tells′ ds (loaded_with a h) t
    → RoomsAgree s t
