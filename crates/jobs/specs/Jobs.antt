-- What mixjob prints.
use Rattle.std.specs.Prelude.{ℕ, List, [], ◌∷◌, ◌++◌, drop, Ok, Err, codes, decimal, Result, ℤ}
use Rattle.std.specs.Fmt.{signed_decimal}
use Rattle.std.specs.List.{flat_map}
use Rattle.card.specs.Lines.{cards_of}
use Rattle.console.specs.Calls.{loaded_with}
use Rattle.flights.specs.Faults.{fault_numbers}
use Rattle.flights.specs.declared.fault.Fault.{Fault}
use Rattle.job_rack.specs.Units.{job_units, job_time}
use Rattle.listing.specs.Listing.{listing_of, symbol_lines_of}
use Rattle.machine.specs.Steps.{State}
use Rattle.machine.specs.declared.phase.Phase.{Phase}
use Rattle.machine.specs.declared.phase.Phase.TheVariants.{Running, Halted, Faulted}
use Rattle.mixal.specs.Assembled.{deck_of}
use Rattle.mixal.specs.Causes.{number_of}
use Rattle.mixal.specs.Ends.{Assembled}
use Rattle.mixal.specs.declared.cause.Rejection.{Rejection}
use Rattle.rack.specs.declared.request.Request.{Request}
use Rattle.sheet.specs.Sheet.{line, sheet_of}
use Rattle.jobs.specs.Runs.{runs_at}

-- a rejected deck: its number and card
abbrev pub reject_line : Rejection → List ℕ
reject_line p = codes "REJECT " ++ (decimal (number_of p.cause) ++ (32 ∷ (decimal p.card ++ (10 ∷ []))))

-- the listing and the symbols of a deck
abbrev pub deck_text : Assembled → List ℕ
deck_text a = listing_of a.lines ++ symbol_lines_of a.symbols

-- a fault: its number and what is told of it, a blank before each
abbrev pub told_line : List ℤ → List ℕ
told_line ns = line (codes "FAULT" ++ flat_map (λ n. 32 ∷ signed_decimal n) ns)

abbrev pub fault_line : Fault → List ℕ
fault_line f = told_line (fault_numbers f)

-- what follows them of a machine: its sheet, its fault, or that it has not halted
abbrev pub outcome_in : State → Phase → List ℕ
outcome_in s Running = line (codes "NOT HALTED")
outcome_in s Halted = sheet_of s
outcome_in s (Faulted f) = fault_line f

abbrev pub outcome_of : State → List ℕ
outcome_of s = outcome_in s s.phase

-- a machine after ten runs of 1,000,000 steps with the times of a job
abbrev pub time_of : Request → ℕ
time_of q = job_time q.unit.number

abbrev pub runs_of : ℕ → State → State
runs_of n s = runs_at time_of 1000000 n s

-- a deck and the cards after it: listing and symbols, and what comes of its run
abbrev pub job_text : Assembled → List (List ℕ) → List ℕ
job_text a cards = deck_text a ++ outcome_of (runs_of 10 (loaded_with a (job_units cards)))

-- what is printed of a deck and an input; of a rejected deck only that
abbrev pub report_of : List ℕ → Result Assembled Rejection → List ℕ
report_of input (Err p) = reject_line p
report_of input (Ok a) = job_text a (drop a.cards (cards_of input))

-- all that is printed of an input, which has a deck at its front
abbrev pub printed : List ℕ → List ℕ
printed input = report_of input (deck_of input)
