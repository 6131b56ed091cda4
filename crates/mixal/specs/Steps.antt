-- What the parts of the assembler answer of one card.
use Rattle.std.specs.Prelude.{◌≡◌, ℕ, suc, ◌<◌, Bool, true, false, cond, List, length, Some, None, Ok, Err, Option, Result}
use Rattle.names.specs.Names.{operation_of}
use Rattle.names.specs.declared.kinds.Operation.{Operation}
use Rattle.names.specs.declared.kinds.Operation.TheVariants.{End}
use Rattle.scan.specs.Columns.{is_remark, op_of, address_of}
use Rattle.mixal.specs.declared.cause.Cause.TheVariants.{NoEnd}
use Rattle.mixal.specs.declared.cause.Refusal.{Refusal}
use Rattle.mixal.specs.declared.cause.Refusal.TheVariants.{Rejected, NoMemory}
use Rattle.mixal.specs.declared.cause.Rejection.{Rejection}
use Rattle.mixal.specs.declared.sound_card.SoundCard.{SoundCard}
use Rattle.mixal.specs.declared.cause.Cause.{Cause}
use Rattle.mixal.specs.Causes.{cause_of, late_cause, misses_end, unreadable, ready_for}
use Rattle.mixal.specs.Deck.{State, after_card, is_end, is_end_of}
use Rattle.mixal.specs.Ends.{Assembled, at_end, ended}
use Rattle.mixal.specs.Assembled.{unless_rejected}

-- a card that is no remark, with its operation, of which none of the first five causes holds
pub record Read (s : State) (c : List ℕ) (o : Operation) : Type 0 where
  pub remark : is_remark c ≡ false
  pub operation : operation_of (op_of c) ≡ Some o
  pub readable : unreadable (address_of c) o ≡ false
  pub cause : (last : Bool) → cause_of last s c ≡ late_cause (misses_end last (is_end_of (Some o))) (ready_for s c o).symbols (ready_for s c o).here c o
  pub few : length s.drafts < 600

-- what is found of a card before its ADDRESS is worked: it is bad, or a remark, or it has an operation
abbrev pub Judges : State → List ℕ → Result (SoundCard × Option Operation) Cause → Type 0
Judges s c (Err x) = (last : Bool) → cause_of last s c ≡ Some x
Judges s c (Ok (k, None)) =
    (is_remark c ≡ true) × ((last : Bool) → cause_of last s c ≡ cond last (Some NoEnd) None) × (k.text.now ≡ c) × (length s.drafts < 600)
Judges s c (Ok (k, Some o)) = Read s c o × (k.text.now ≡ c)

-- what the answer to a card that is not END says: it was taken, or it is rejected; t is the state after it
abbrev pub Takes : Bool → State → List ℕ → State → Result (Unit {0}) Refusal → Type 0
Takes last s c t (Ok u) = (cause_of last s c ≡ None) × (t ≡ after_card s c)
Takes last s c t (Err (Rejected p)) = (cause_of last s c ≡ Some p.cause) × (p.card ≡ suc (length s.drafts))
Takes last s c t (Err NoMemory) = Unit {0}

-- what the answer to one card says: it was taken, it is END, or it is rejected; t is the state after it
abbrev pub Steps : Bool → State → List ℕ → State → Result (Option SoundCard) Refusal → Type 0
Steps last s c t (Ok None) = (is_end c ≡ false) × (cause_of last s c ≡ None) × (t ≡ after_card s c)
Steps last s c t (Ok (Some k)) = (is_end c ≡ true) × Read s c End × (t ≡ s) × (k.text.now ≡ c)
Steps last s c t (Err (Rejected p)) = (cause_of last s c ≡ Some p.cause) × (p.card ≡ suc (length s.drafts))
Steps last s c t (Err NoMemory) = Unit {0}

-- END, of whose card none of the first five causes holds
abbrev pub ended_if : State → List ℕ → Result Assembled Rejection
ended_if s c =
    unless_rejected (suc (length s.drafts)) (Ok (ended (length s.drafts) (at_end s c) c))
    (late_cause false (at_end s c).symbols (at_end s c).here c End)
