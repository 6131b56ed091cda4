-- Lists of calls, and two rooms that begin alike.
use Rattle.std.proofs.Common.{◌≡◌, ℕ, ◌+◌, ◌<◌, List, length, get_or, drop, sym, refl, subst, arith}
use Rattle.std.proofs.lemmas.List.{drop_more, drop_all}
use Rattle.console.proofs.Fronts.{sheets_of}
use Rattle.console.specs.Calls.{loaded_with}
use Rattle.console.specs.Rooms.{OneDeck}
use Rattle.machine.specs.Runs.{Made, Session}
use Rattle.machine.specs.Steps.{State}
use Rattle.machine.specs.declared.call.Call.{Call}
use Rattle.mixal.specs.Ends.{Assembled}
use Rattle.rack.specs.Units.{Holdings}
use Rattle.rack.specs.declared.request.Request.{Request}
use Rattle.rooms.proofs.Rooms.{two_rooms}
use Rattle.rooms.specs.Rooms.{Fresh}

-- what the calls from the i-th on lead to
module _ {R : Type 0} (holds : R → Holdings) (tells : R → Request → ℕ) where
  abbrev pub Rest : List Call → ℕ → State → State → Type 0
  Rest cs i s m = (t : State) → Session holds tells (drop i cs) m t → Session holds tells cs s t

  pub rest_more : (cs : List Call) (i : ℕ) (d : Call) (s m n : State) → i < length cs → Rest cs i s m → Made holds tells (get_or cs i d) m n → Rest cs (i + 1) s n
  rest_more cs i d s m n h r made t rest = r t (subst (λ ds. Session holds tells ds m t) (sym (drop_more cs i d h)) (n, made, rest))

  pub rest_all : (cs : List Call) (i : ℕ) (s m : State) → length cs ≡ i → Rest cs i s m → Session holds tells cs s m
  rest_all cs i s m l r = r m (subst (λ ds. Session holds tells ds m m) (sym (drop_all i cs (omega (arith, l)))) refl)

fresh_loaded : (a : Assembled) (h : Holdings) → Fresh (loaded_with a h)
fresh_loaded a h = record { idle = λ u. refl; clock = refl; working_time = refl; waiting = refl; told = refl; granted = refl; working_steps = refl; waiting_steps = refl; mark = refl; phase = refl }

-- the law, for a deck in two rooms whose units begin equal
pub one_deck : {R S : Type 0} (holds : R → Holdings) (tells : R → Request → ℕ) (holds′ : S → Holdings) (tells′ : S → Request → ℕ) → OneDeck holds tells holds′ tells′
one_deck holds tells holds′ tells′ a g h cs ds s t e p q =
    let both =
    two_rooms holds tells holds′ tells′ (loaded_with a g) s t cs ds (fresh_loaded a g) p
    (subst (λ f. Session holds′ tells′ ds (loaded_with a f) t) (λ i u. sym (e u) i) q)
    in
    record { both = both; sheets = sheets_of s t both }
