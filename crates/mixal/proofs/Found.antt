-- The causes of a card as they are looked for one after the other.
use Rattle.std.proofs.Common.{◌≡◌, ℕ, suc, Bool, true, false, cond, not, ◌||◌, leb, List, [], ◌∷◌, length, Some, None, Option, Err, sym, refl, ap, ◌∙◌, subst, arith}
use Rattle.card.specs.Text.{sound}
use Rattle.names.specs.declared.kinds.Operation.{Operation}
use Rattle.names.specs.declared.kinds.Operation.TheVariants.{Machine, Equ, Orig, Con, Alf, End}
use Rattle.scan.specs.Columns.{op_of, address_of}
use Rattle.names.specs.Names.{operation_of}
use Rattle.std.proofs.lemmas.Bool.{both_ways}
use Rattle.symbols.specs.declared.meaning.Meaning.{Meaning}
use Rattle.table.specs.declared.name.Name.{Name}
use Rattle.mixal.specs.Causes.{cause_of, first_of, late_cause, misses_end, undefined_for, out_of_range, too_many, ready_for}
use Rattle.mixal.specs.Deck.{State, after_named, after_remark, after_operation, after_card, is_end_of, loc_name, future_for}
use Rattle.mixal.specs.Steps.{Read, Takes}
use Rattle.mixal.specs.declared.cause.Cause.{Cause}
use Rattle.mixal.specs.declared.cause.Cause.TheVariants.{Text, Columns, DefinedTwice, Operation as NoOperation, Address, Undefined, Range, NoEnd, TooManySymbols}
use Rattle.mixal.specs.declared.cause.Refusal.{Refusal}
use Rattle.mixal.specs.declared.cause.Refusal.TheVariants.{Rejected}

-- the causes after the first
abbrev others : List Cause
others = Columns ∷ DefinedTwice ∷ NoOperation ∷ Address ∷ Undefined ∷ Range ∷ NoEnd ∷ TooManySymbols ∷ []

-- a damaged card
pub damaged : (s : State) (c : List ℕ) → sound c ≡ false → (last : Bool) → cause_of last s c ≡ Some Text
damaged s c h last = at (leb 600 (length s.drafts))
  where
    at : (b : Bool) → cond (b || not (sound c)) (Some Text) (first_of others last s c) ≡ Some Text
    at true = refl
    at false = ap (λ (v : Bool). cond (not v) (Some Text) (first_of others last s c)) h

-- only END is read in another state
pub ready : (s : State) (c : List ℕ) (o : Operation) → is_end_of (Some o) ≡ false → ready_for s c o ≡ s
ready s c (Machine i) h = refl
ready s c Equ h = refl
ready s c Orig h = refl
ready s c Con h = refl
ready s c Alf h = refl
ready s c End h = absurd (both_ways true h refl)

late : (last : Bool) (s : State) (c : List ℕ) (o : Operation) → Read s c o → is_end_of (Some o) ≡ false → cause_of last s c ≡ late_cause last s.symbols s.here c o
late last s c o r h =
    r.cause last ∙ ap (λ (t : State). late_cause (misses_end last (is_end_of (Some o))) t.symbols t.here c o) (ready s c o h)
    ∙ ap (λ (b : Bool). late_cause (misses_end last b) s.symbols s.here c o) h

-- the same symbols and the same location have the same causes
pub late_alike : (missing : Bool) (c : List ℕ) (o : Operation) {es fs : List (Name × Meaning)} {h k : ℕ} {r : Option Cause} → es ≡ fs → h ≡ k → late_cause missing es h c o ≡ r → late_cause missing fs k c o ≡ r
late_alike missing c o e f g = sym (λ i. late_cause missing (e i) (f i) c o) ∙ g

-- a card that is rejected for a cause from 6 on
pub late_bad : (last : Bool) (s : State) (c : List ℕ) (o : Operation) → Read s c o → is_end_of (Some o) ≡ false → (x : Cause) → late_cause last s.symbols s.here c o ≡ Some x → (r : Refusal) → r ≡ Rejected (record { cause = x; card = suc (length s.drafts) }) → (t : State) → Takes last s c t (Err r)
late_bad last s c o d h x e r q t =
    let P : Refusal → Type 0 = λ v. Takes last s c t (Err v) in
    subst P (sym q) (late last s c o d h ∙ e, refl)

-- a card of which no cause holds
pub late_good : (last : Bool) (s : State) (c : List ℕ) (o : Operation) → Read s c o → is_end_of (Some o) ≡ false → late_cause last s.symbols s.here c o ≡ None → (t : State) → t ≡ after_operation s c o → (cause_of last s c ≡ None) × (t ≡ after_card s c)
late_good last s c o d h e t q = (
  late last s c o d h ∙ e,
  q ∙ sym (ap (λ (v : Bool). cond v (after_remark s c) (after_named s c (operation_of (op_of c)))) d.remark ∙ ap (after_named s c) d.operation),
)

-- its value and location are in range
pub in_range : (missing : Bool) (es : List (Name × Meaning)) (here : ℕ) (c : List ℕ) (o : Operation) → late_cause missing es here c o ≡ None → out_of_range es here c o ≡ false
in_range missing es here c o e = at (undefined_for es (address_of c) o) (out_of_range es here c o) e
  where
    at : (u v : Bool) → cond u (Some Undefined) (cond v (Some Range) (cond missing (Some NoEnd) (cond (too_many es (loc_name c) (future_for es (address_of c) o)) (Some TooManySymbols) None))) ≡ None → v ≡ false
    at true v h = let z : ◌≡◌ {A = ℕ} 0 1 = cc in absurd (omega arith)
    at false true h = let z : ◌≡◌ {A = ℕ} 0 1 = cc in absurd (omega arith)
    at false false h = refl
