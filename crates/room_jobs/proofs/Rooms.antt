-- Two rooms, and what is printed of them.
use Rattle.std.proofs.Common.{◌≡◌, ◌≢◌, ℕ, zero, suc, List, [], ◌++◌, drop, replicate, None, Result, Ok, Err, codes, refl, sym, ap, ◌∙◌, subst}
use Rattle.card.specs.Lines.{cards_of}
use Rattle.console.specs.Calls.{Assembles, loaded_with}
use Rattle.console.specs.Rooms.{SheetsAgree}
use Rattle.job_rack.specs.Units.{job_units}
use Rattle.jobs.specs.Jobs.{outcome_in, runs_of, time_of}
use Rattle.jobs.specs.Runs.{run_at, runs_at}
use Rattle.jobs.proofs.Known.{ran_at}
use Rattle.machine.specs.Runs.{Session}
use Rattle.machine.specs.Steps.{State}
use Rattle.machine.specs.declared.call.Call.TheVariants.{Run}
use Rattle.machine.specs.declared.phase.Phase.{Phase}
use Rattle.machine.specs.declared.phase.Phase.TheVariants.{Running, Halted, Faulted}
use Rattle.mixal.specs.Ends.{Assembled}
use Rattle.mixal.specs.Model.{assembled}
use Rattle.mixal.specs.declared.cause.Rejection.{Rejection}
use Rattle.mixal.specs.declared.deck.Deck.{Deck}
use Rattle.rack.specs.Units.{EqualUnits, Holdings}
use Rattle.rack.specs.declared.request.Request.{Request}
use Rattle.sheet.specs.Sheet.{front_of, line, mark_line, sheet_of}
use Rattle.room_jobs.specs.Differences.{differences}
use Rattle.room_jobs.specs.TwoRooms.{Beside, OutcomeOf, RoomsPrintedOf, RunsBeside, compared_in, rooms_text, same_line, ten_runs, told_differences, verdict_in}
use Rattle.room_jobs.specs.declared.outcomes.Outcome.{Outcome}
use Rattle.room_jobs.proofs.Differing.{same_texts}

-- where the times are known, runs one after the other come to one machine
module _ {R : Type 0} (holds : R → Holdings) (tells : R → Request → ℕ) (time : Request → ℕ) (told : (r : R) (q : Request) → tells r q ≡ time q) where
  runs_first : (b n : ℕ) (s : State) → runs_at time b (suc n) s ≡ runs_at time b n (run_at time b s)
  runs_first b zero s = refl
  runs_first b (suc n) s = ap (run_at time b) (runs_first b n s)

  runs_came : (n b : ℕ) (s t : State) → Session holds tells (replicate n (Run b)) s t → t ≡ runs_at time b n s
  runs_came zero b s t e = e
  runs_came (suc n) b s t c = runs_came n b c.0 t c.2 ∙ ap (runs_at time b n) (ran_at holds tells time told b s c.0 c.1) ∙ sym (runs_first b n s)

pub first_came : {R : Type 0} (holds : R → Holdings) (tells : R → Request → ℕ) → ((r : R) (q : Request) → tells r q ≡ time_of q) → (s t : State) → Session holds tells ten_runs s t → t ≡ runs_of 10 s
first_came holds tells told s t c = runs_came holds tells time_of told 10 1000000 s t c

-- where both have halted, the first without a mark, the line says that nothing differs
same_lines : (s t : State) → SheetsAgree s t → s.phase ≡ Halted → s.mark ≡ None → t.phase ≡ Halted → rooms_text s t ≡ sheet_of s ++ (line (codes "CLEAN") ++ same_line)
same_lines s t agree h m k =
    let none = (same_texts (front_of s) (front_of t)).1 (agree h m k).front in
    (λ i. outcome_in s (h i) ++ (verdict_in s (h i) ++ told_differences (differences (compared_in s (h i)) (compared_in t (k i)))))
    ∙ (λ i. sheet_of s ++ (mark_line (m i) ++ told_differences (none i)))

-- what is printed of two machines
module _ {R S : Type 0} (holds : R → Holdings) (tells : R → Request → ℕ) (holds′ : S → Holdings) (tells′ : S → Request → ℕ) where
  pub rooms_told : ((r : R) (q : Request) → tells r q ≡ time_of q) → (a : Assembled) (g h u : Holdings) (s t : State) (out : List ℕ) (o p : Outcome)
      → g ≡ u → h ≡ u
      → Session holds tells ten_runs (loaded_with a g) s → Session holds′ tells′ ten_runs (loaded_with a h) t
      → (EqualUnits g h → SheetsAgree s t) → OutcomeOf s o → OutcomeOf t p
      → out ≡ o.told.items ++ (o.verdict.items ++ told_differences (differences o.compared.items p.compared.items))
      → RunsBeside holds′ tells′ (loaded_with a u) out
  rooms_told told a g h u s t out o p d e first second agree b c f =
      let came = first_came holds tells told (loaded_with a u) s (subst (λ (k : Holdings). Session holds tells ten_runs (loaded_with a k) s) d first) in
      let text : out ≡ rooms_text s t = f ∙ (λ i. b.0 i ++ (b.2 i ++ told_differences (differences (b.1 i) (c.1 i)))) in
      let sheets = agree (λ v i. (d ∙ sym e) i v) in
      subst (λ (k : State). Beside holds′ tells′ (loaded_with a u) k out) came
      (record {
        second = t;
        came = subst (λ (k : Holdings). Session holds′ tells′ ten_runs (loaded_with a k) t) e second;
        text = text;
        same = λ x m y. text ∙ same_lines s t sheets x m y;
      })

-- of a machine that has not halted there is nothing but its line
pub stopped_compared : (s : State) (p : Phase) → p ≢ Halted → compared_in s p ≡ outcome_in s p
stopped_compared s Running h = refl
stopped_compared s Halted h = absurd (h refl)
stopped_compared s (Faulted f) h = refl

pub stopped_verdict : (s : State) (p : Phase) → p ≢ Halted → verdict_in s p ≡ []
stopped_verdict s Running h = refl
stopped_verdict s Halted h = absurd (h refl)
stopped_verdict s (Faulted f) h = refl

-- what came of an assembled deck, with the cards after it, is what is to be printed of the input
module _ {R : Type 0} (holds : R → Holdings) (tells : R → Request → ℕ) where
  pub printed_from : (x : Result Assembled Rejection) (d : Deck) (input cards out : List ℕ) → Assembles x (Ok d) → cards_of cards ≡ drop d.cards (cards_of input)
      → RunsBeside holds tells (loaded_with (assembled d) (job_units (cards_of cards))) out → RoomsPrintedOf holds tells input out x
  printed_from (Ok a) d input cards out e f b =
      subst (λ (k : Assembled). RunsBeside holds tells (loaded_with k (job_units (drop k.cards (cards_of input)))) out) e
      (subst (λ (k : List (List ℕ)). RunsBeside holds tells (loaded_with (assembled d) (job_units k)) out) f b)
  printed_from (Err p) d input cards out e f b = absurd e
