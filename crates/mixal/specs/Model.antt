-- What the values of the code stand for.
use Rattle.std.specs.Prelude.{◌≡◌, List, Ok, Err, vec_items, Result}
use Rattle.mixal.specs.declared.assembly.Assembly.{Assembly}
use Rattle.mixal.specs.declared.cause.Refusal.{Refusal}
use Rattle.mixal.specs.declared.cause.Refusal.TheVariants.{Rejected, NoMemory}
use Rattle.mixal.specs.declared.cause.Rejection.{Rejection}
use Rattle.mixal.specs.declared.deck.Deck.{Deck}
use Rattle.mixal.specs.declared.progress.Progress.{Progress}
use Rattle.mixal.specs.Deck.{State, state_of}
use Rattle.mixal.specs.Ends.{Assembled}
use Rattle.symbols.specs.Symbols.{entries}
use Rattle.table.specs.declared.name.Name.{Name}

-- the state of a deck as far as it was read, ns being the names awaited
abbrev pub progress_of : Progress → List Name → State
progress_of p ns = state_of p.here (entries p.symbols) ns (vec_items p.drafts)

-- the state of an assembly
abbrev pub model_of : Assembly → State
model_of a = progress_of a.progress (vec_items a.awaited)

-- what a deck holds
abbrev pub assembled : Deck → Assembled
assembled d = record { symbols = entries d.symbols; lines = vec_items d.lines; start = d.start; cards = d.cards }

-- the answer is the defined one, unless memory was wanting
abbrev pub Answers : Result Deck Refusal → Result Assembled Rejection → Type 0
Answers (Ok d) (Ok a) = assembled d ≡ a
Answers (Ok d) (Err q) = ⊥
Answers (Err (Rejected p)) (Ok a) = ⊥
Answers (Err (Rejected p)) (Err q) = p ≡ q
Answers (Err NoMemory) x = Unit {0}
