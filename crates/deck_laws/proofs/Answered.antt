-- The answer of the assembler keeps the laws of its decks.
use Rattle.std.proofs.Common.{◌≡◌, ℕ, List, IfOk, Ok, Err, Result, sym, refl, subst}
use Rattle.card.specs.Lines.{cards_of}
use Rattle.mixal.specs.Assembled.{deck_of}
use Rattle.mixal.specs.Ends.{Assembled}
use Rattle.mixal.specs.Model.{Answers, assembled}
use Rattle.mixal.specs.declared.cause.Refusal.{Refusal}
use Rattle.mixal.specs.declared.cause.Rejection.{Rejection}
use Rattle.mixal.specs.declared.deck.Deck.{Deck}
use Rattle.deck_laws.specs.Defined.{Defined}
use Rattle.deck_laws.specs.Lawful.{Lawful}
use Rattle.deck_laws.specs.Words.{Words}
use Rattle.deck_laws.proofs.Carried.{definitions}
use Rattle.deck_laws.proofs.Following.{after_end}
use Rattle.deck_laws.proofs.Judging.{rejections}
use Rattle.deck_laws.proofs.Shown.{words}

-- what holds of each deck that a text gives holds of the deck that was answered
of_answer : (P : Assembled → Type 0) (text : List ℕ) (r : Result Deck Refusal) → Answers r (deck_of text) → ((a : Assembled) → deck_of text ≡ Ok a → P a) → IfOk r (λ d. P (assembled d))
of_answer P text (Ok d) h law = at (deck_of text) refl h
  where
    at : (x : Result Assembled Rejection) → deck_of text ≡ x → Answers (Ok d) x → P (assembled d)
    at (Ok a) e q = subst P (sym q) (law a e)
    at (Err p) e q = absurd q
of_answer P text (Err e) h law = tt

pub lawful : (text : List ℕ) (r : Result Deck Refusal) → Answers r (deck_of text) → Lawful text r
lawful text r h =
    record {
      rejections = rejections (cards_of text);
      words = of_answer (Words (cards_of text)) text r h (words (cards_of text));
      symbols = of_answer (Defined (cards_of text)) text r h (definitions (cards_of text));
      rest = after_end text;
    }
