-- One card of a deck, and the deck from there on.
use Rattle.std.proofs.Common.{◌≡◌, ℕ, zero, suc, ◌+◌, ◌-◌, ◌<◌, ◌≤◌, Bool, true, false, cond, not, ◌&&◌, List, [], ◌∷◌, length, get_or, is_some, Some, None, Ok, Option, sym, refl, ap, ◌∙◌, subst, add-one, arith}
use Rattle.mixal.specs.Assembled.{read_from, is_last, unless_rejected}
use Rattle.mixal.specs.Causes.{holds, misses_end, first_of, all_causes, cause_of, number_of}
use Rattle.mixal.specs.Deck.{State, after_card, after_named, after_remark, is_end}
use Rattle.mixal.specs.Ends.{Assembled, ended, at_end}
use Rattle.mixal.specs.declared.cause.Cause.{Cause}
use Rattle.mixal.specs.declared.cause.Cause.TheVariants.{Text, Columns, DefinedTwice, Operation as NoOperation, Address, Undefined, Range, NoEnd, TooManySymbols}
use Rattle.names.specs.Names.{operation_of}
use Rattle.names.specs.declared.kinds.Operation.{Operation}
use Rattle.scan.specs.Columns.{is_remark, op_of}
use Rattle.std.proofs.lemmas.List.{length_push}
use Rattle.std.proofs.lemmas.Bool.{both_ways}
use Rattle.std.specs.List.{AllByRecursion}
use Rattle.deck_laws.specs.Reading.{Reads}

pub never : {A : Type 0} (x : A) → Some x ≡ None → ⊥
never x e = let z : ◌≡◌ {A = ℕ} 0 1 = cc in omega arith

-- where no cause is found, none holds, and the other way round
none_holds : (xs : List Cause) (last : Bool) (s : State) (c : List ℕ) → first_of xs last s c ≡ None → AllByRecursion (λ x. holds last x s c ≡ false) xs
none_holds [] last s c e = tt
none_holds (x ∷ xs) last s c e = at (holds last x s c) refl e (none_holds xs last s c)
  where
    at : (b : Bool) → holds last x s c ≡ b → cond b (Some x) (first_of xs last s c) ≡ None → (first_of xs last s c ≡ None → AllByRecursion (λ y. holds last y s c ≡ false) xs) → AllByRecursion (λ y. holds last y s c ≡ false) (x ∷ xs)
    at true h f rec = absurd (never x f)
    at false h f rec = (h, rec f)

none_found : (xs : List Cause) (last : Bool) (s : State) (c : List ℕ) → AllByRecursion (λ x. holds last x s c ≡ false) xs → first_of xs last s c ≡ None
none_found [] last s c a = refl
none_found (x ∷ xs) last s c a = ap (λ (b : Bool). cond b (Some x) (first_of xs last s c)) a.0 ∙ none_found xs last s c a.1

pub free : (last : Bool) (s : State) (c : List ℕ) → cause_of last s c ≡ None → (x : Cause) → holds last x s c ≡ false
free last s c e Text = (none_holds all_causes last s c e).0
free last s c e Columns = (none_holds all_causes last s c e).1.0
free last s c e DefinedTwice = (none_holds all_causes last s c e).1.1.0
free last s c e NoOperation = (none_holds all_causes last s c e).1.1.1.0
free last s c e Address = (none_holds all_causes last s c e).1.1.1.1.0
free last s c e Undefined = (none_holds all_causes last s c e).1.1.1.1.1.0
free last s c e Range = (none_holds all_causes last s c e).1.1.1.1.1.1.0
free last s c e NoEnd = (none_holds all_causes last s c e).1.1.1.1.1.1.1.0
free last s c e TooManySymbols = (none_holds all_causes last s c e).1.1.1.1.1.1.1.1.0

-- a card that is good as the last is good with others after it
pub clean : (last : Bool) (s : State) (c : List ℕ) → cause_of last s c ≡ None → cause_of false s c ≡ None
clean last s c e =
    let f = free last s c e in
    none_found all_causes false s c (f Text, (f Columns, (f DefinedTwice, (f NoOperation, (f Address, (f Undefined, (f Range, (at (is_end c), (f TooManySymbols, tt)))))))))
  where
    at : (b : Bool) → misses_end false b ≡ false
    at true = refl
    at false = refl

-- and END is good as the last
pub end_clean : (last : Bool) (s : State) (c : List ℕ) → cause_of false s c ≡ None → is_end c ≡ true → cause_of last s c ≡ None
end_clean last s c e h =
    let f = free false s c e in
    none_found all_causes last s c (f Text, (f Columns, (f DefinedTwice, (f NoOperation, (f Address, (f Undefined, (f Range, (ap (misses_end last) h, (f TooManySymbols, tt)))))))))

-- a cause that is found holds, and none before it does
found : (xs : List Cause) (last : Bool) (s : State) (c : List ℕ) (x : Cause) → first_of xs last s c ≡ Some x → (i : ℕ) × (i < length xs) × (get_or xs i Text ≡ x) × (holds last x s c ≡ true) × ((j : ℕ) → j < i → holds last (get_or xs j Text) s c ≡ false)
found [] last s c x e = absurd (never x (sym e))
found (y ∷ ys) last s c x e = at (holds last y s c) refl e (found ys last s c x)
  where
    at : (b : Bool) → holds last y s c ≡ b → cond b (Some y) (first_of ys last s c) ≡ Some x → (first_of ys last s c ≡ Some x → (i : ℕ) × (i < length ys) × (get_or ys i Text ≡ x) × (holds last x s c ≡ true) × ((j : ℕ) → j < i → holds last (get_or ys j Text) s c ≡ false)) → (i : ℕ) × (i < suc (length ys)) × (get_or (y ∷ ys) i Text ≡ x) × (holds last x s c ≡ true) × ((j : ℕ) → j < i → holds last (get_or (y ∷ ys) j Text) s c ≡ false)
    at true h f rec =
        let q : y ≡ x = cc in
        (0, omega arith, q, ap (λ (z : Cause). holds last z s c) (sym q) ∙ h, λ j l. absurd (omega arith))
    at false h f rec = (suc (rec f).0, omega (arith, (rec f).1), (rec f).2, (rec f).3, less)
      where
        less : (j : ℕ) → j < suc (rec f).0 → holds last (get_or (y ∷ ys) j Text) s c ≡ false
        less zero l = h
        less (suc j) l = (rec f).4 j (omega arith)

-- a cause by its number
pub numbered : (y : Cause) → get_or all_causes (number_of y - 1) Text ≡ y
numbered Text = refl
numbered Columns = refl
numbered DefinedTwice = refl
numbered NoOperation = refl
numbered Address = refl
numbered Undefined = refl
numbered Range = refl
numbered NoEnd = refl
numbered TooManySymbols = refl

positive : (y : Cause) → 1 ≤ number_of y
positive Text = omega arith
positive Columns = omega arith
positive DefinedTwice = omega arith
positive NoOperation = omega arith
positive Address = omega arith
positive Undefined = omega arith
positive Range = omega arith
positive NoEnd = omega arith
positive TooManySymbols = omega arith

place : (i : ℕ) → i < 9 → number_of (get_or all_causes i Text) ≡ suc i
place zero h = refl
place (suc zero) h = refl
place (suc (suc zero)) h = refl
place (suc (suc (suc zero))) h = refl
place (suc (suc (suc (suc zero)))) h = refl
place (suc (suc (suc (suc (suc zero))))) h = refl
place (suc (suc (suc (suc (suc (suc zero)))))) h = refl
place (suc (suc (suc (suc (suc (suc (suc zero))))))) h = refl
place (suc (suc (suc (suc (suc (suc (suc (suc zero)))))))) h = refl
place (suc (suc (suc (suc (suc (suc (suc (suc (suc i))))))))) h = absurd (omega arith)

-- the cause of a card is the one with the smallest number that holds
pub smallest : (last : Bool) (s : State) (c : List ℕ) (x : Cause) → cause_of last s c ≡ Some x → (holds last x s c ≡ true) × ((y : Cause) → number_of y < number_of x → holds last y s c ≡ false)
smallest last s c x e =
    let r = found all_causes last s c x e in
    let n : number_of x ≡ suc r.0 = sym (ap number_of r.2) ∙ place r.0 r.1 in
    (r.3, λ y l. ap (λ (z : Cause). holds last z s c) (sym (numbered y)) ∙ r.4 (number_of y - 1) (omega (arith, positive y)))

-- a card that is read adds a draft
pub grows : (s : State) (c : List ℕ) → cause_of false s c ≡ None → length (after_card s c).drafts ≡ suc (length s.drafts)
grows s c e = at (is_remark c) (operation_of (op_of c)) refl (free false s c e NoOperation)
  where
    at : (b : Bool) (o : Option Operation) → is_remark c ≡ b → (not (is_remark c) && not (is_some o)) ≡ false → length (cond b (after_remark s c) (after_named s c o)).drafts ≡ suc (length s.drafts)
    at true o h f = length_push s.drafts _ ∙ add-one (length s.drafts)
    at false None h f = absurd (both_ways _ f (ap (λ (b : Bool). not b && true) h))
    at false (Some o) h f = length_push s.drafts _ ∙ add-one (length s.drafts)

-- what is known of a card of a deck that is assembled: it is good, and the deck goes on from it
abbrev pub GoesOn : State → List ℕ → List (List ℕ) → Assembled → Type 0
GoesOn s c cs a =
    (cause_of false s c ≡ None)
    × (is_end c ≡ true → a ≡ ended (length s.drafts) (at_end s c) c)
    × (is_end c ≡ false → read_from (after_card s c) cs ≡ Ok a)

pub goes_on : (s : State) (c : List ℕ) (cs : List (List ℕ)) (a : Assembled) → read_from s (c ∷ cs) ≡ Ok a → GoesOn s c cs a
goes_on s c cs a e = at (cause_of (is_last cs) s c) (is_end c) refl refl e
  where
    at : (o : Option Cause) (b : Bool) → cause_of (is_last cs) s c ≡ o → is_end c ≡ b → unless_rejected (suc (length s.drafts)) (cond b (Ok (ended (length s.drafts) (at_end s c) c)) (read_from (after_card s c) cs)) o ≡ Ok a → GoesOn s c cs a
    at (Some x) b h g f = let z : ◌≡◌ {A = ℕ} 0 1 = cc in absurd (omega arith)
    at None true h g f = let q : ended (length s.drafts) (at_end s c) c ≡ a = cc in (clean (is_last cs) s c h, λ _. sym q, λ n. absurd (both_ways (is_end c) n g))
    at None false h g f = (clean (is_last cs) s c h, λ n. absurd (both_ways (is_end c) g n), λ _. f)

-- the deck from a card on
pub from_card : (s : State) (cs : List (List ℕ)) (k : ℕ) (t : State) (c : List ℕ) (rest : List (List ℕ)) (a : Assembled) → read_from s cs ≡ Ok a → Reads s cs k t c rest → (read_from t (c ∷ rest) ≡ Ok a) × (length t.drafts ≡ length s.drafts + k)
from_card s [] k t c rest a e r = absurd r
from_card s (d ∷ ds) zero t c rest a e r =
    let P : State → Type 0 = λ v. read_from v (c ∷ rest) ≡ Ok a in
    let Q : List ℕ → Type 0 = λ v. read_from s (v ∷ rest) ≡ Ok a in
    let R : List (List ℕ) → Type 0 = λ v. read_from s (d ∷ v) ≡ Ok a in
    (subst P (sym r.0) (subst Q (sym r.1) (subst R (sym r.2) e)), ap (λ (v : State). length v.drafts) r.0 ∙ omega arith)
from_card s (d ∷ ds) (suc k) t c rest a e r =
    let g = goes_on s d ds a e in
    let q = from_card (after_card s d) ds k t c rest a (g.2 r.0) r.1 in
    (q.0, omega (arith, q.1, grows s d g.0))
