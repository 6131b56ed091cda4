use Rattle.std.proofs.Common.{◌≡◌, [], ◌∷◌, Ok, Err, Result, subst, sym, ◌∙◌}
use Rattle.console.specs.Calls.{Assembles, closed_model, loaded_with}
use Rattle.machine.specs.Runs.{Session}
use Rattle.machine.specs.declared.call.Call.TheVariants.{Close, Peek, Run, Status}
use Rattle.mixal.specs.Assembled.{deck_of}
use Rattle.mixal.specs.Ends.{Assembled}
use Rattle.mixal.specs.Model.{assembled}
use Rattle.mixal.specs.declared.cause.Rejection.{Rejection}
use Rattle.mixal.specs.declared.deck.Deck.{Deck}
use Rattle.call_tests.proofs.chains.by_hand.Goals as goal

-- two decks of one text are the same
one_text : (x : Result Assembled Rejection) (d e : Deck) → Assembles x (Ok d) → Assembles x (Ok e) → assembled e ≡ assembled d
one_text (Ok a) d e p q = q ∙ sym p
one_text (Err r) d e p q = absurd p

pub returns : goal.returns
returns g c = λ equal clean.
    let h = g.R.Rack.holds in
    let k = g.S.Rack.holds in
    let d = c.in_ok-assemble.field-0 in
    let e = c.in_ok-assemble-2.field-0 in
    let same : assembled e ≡ assembled d = one_text (deck_of c.args.text.now) d e c.in_ok-assemble.ensures.answer c.in_ok-assemble-2.ensures.answer in
    let calls = Run 1000 ∷ (Status ∷ (Close ∷ [])) in
    let s = closed_model h c.in_ok-first.first in
    let t = closed_model k c.in_ok-second.second in
    (c.calls_agree.ensures (assembled d) (h c.args.first) (k c.args.second) (Run 40 ∷ (Peek 100 ∷ (Run 1000 ∷ (Close ∷ [])))) calls s t equal
    c.in_ok-first.ensures
    (subst (λ a. Session k g.S.Rack.tells calls (loaded_with a (k c.args.second)) t) same c.in_ok-second.ensures)).sheets
    c.in_ok-first.first.halted clean c.in_ok-second.second.halted
