-- What symbols mean after a card, and that a definition stays.
use Rattle.std.proofs.Common.{◌≡◌, ℕ, Bool, true, false, cond, not, ◌&&◌, List, [], ◌∷◌, is_some, Some, None, Ok, Option, sym, refl, ap, ◌∙◌, subst, arith}
use Rattle.mixal.specs.Assembled.{read_from}
use Rattle.mixal.specs.Causes.{cause_of, is_known, ready_for}
use Rattle.mixal.specs.Deck.{State, after_card, after_named, after_operation, after_remark, defined, named_in, future_for, loc_name, loc_word, is_end, is_end_of}
use Rattle.mixal.specs.Ends.{Assembled, at_end, is_awaited, in_loc, waits, supplied_one, supplied_if, supplied}
use Rattle.mixal.specs.declared.cause.Cause.TheVariants.{DefinedTwice}
use Rattle.names.specs.Names.{operation_of}
use Rattle.mixal.proofs.Found.{ready}
use Rattle.names.specs.declared.kinds.Operation.{Operation}
use Rattle.names.specs.declared.kinds.Operation.TheVariants.{Machine, Equ, Orig, Con, Alf, End}
use Rattle.scan.specs.Columns.{is_remark, op_of, address_of}
use Rattle.std.proofs.lemmas.Bool.{both_ways, and_parts}
use Rattle.std.specs.Option.{option_and_then}
use Rattle.symbols.specs.Symbols.{meaning_of, word_in, known_as}
use Rattle.symbols.specs.declared.meaning.Meaning.{Meaning}
use Rattle.symbols.specs.declared.meaning.Meaning.TheVariants.{Defined, Awaited}
use Rattle.table.proofs.Ordered.{lookup_put, lookup_other}
use Rattle.table.proofs.Orders.{name_order, name_same-Decides}
use Rattle.table.specs.Keys.{name_before, name_same}
use Rattle.table.specs.Pairs.{put}
use Rattle.table.specs.declared.name.Name.{Name}
use Rattle.word.specs.declared.word.Word.{Word}
use Rattle.deck_laws.proofs.Trace.{GoesOn, free, goes_on}

-- the list of symbols
abbrev pub Entries : Type 0
Entries = List (Name × Meaning)

pub same_name : (m n : Name) → name_same m n ≡ true → m ≡ n
same_name m n h = (name_same-Decides m n).0 h

-- a name has one meaning at a time
pub put_there : (es : Entries) (n : Name) (v : Meaning) → meaning_of (put name_before name_same es n v) n ≡ Some v
put_there es n v = lookup_put name_order es n v

pub put_elsewhere : (es : Entries) (m n : Name) (v : Meaning) → name_same m n ≡ false → meaning_of (put name_before name_same es m v) n ≡ meaning_of es n
put_elsewhere es m n v h = lookup_other name_order es m n v h

-- where a name is known, it is defined
pub is_defined : (es : Entries) (n : Name) (w : Word) → known_as es n ≡ Some w → meaning_of es n ≡ Some (Defined w)
is_defined es n w e = at (meaning_of es n) e
  where
    at : (o : Option Meaning) → option_and_then word_in o ≡ Some w → o ≡ Some (Defined w)
    at None h = let z : ◌≡◌ {A = ℕ} 0 1 = cc in absurd (omega arith)
    at (Some (Defined v)) h = let q : v ≡ w = cc in ap (λ (u : Word). Some (Defined u)) q
    at (Some Awaited) h = let z : ◌≡◌ {A = ℕ} 0 1 = cc in absurd (omega arith)

-- what was named before keeps its meaning when another is named
pub named_keeps : (es : Entries) (future : Option Name) (n : Name) (m : Meaning) → meaning_of es n ≡ Some m → meaning_of (named_in es future) n ≡ Some m
named_keeps es None n m h = h
named_keeps es (Some q) n m h = at (is_some (meaning_of es q)) (name_same q n) refl refl
  where
    at : (b v : Bool) → is_some (meaning_of es q) ≡ b → name_same q n ≡ v → meaning_of (cond b es (put name_before name_same es q Awaited)) n ≡ Some m
    at true v e f = h
    at false true e f = absurd (both_ways _ e (ap (λ (k : Name). is_some (meaning_of es k)) (same_name q n f) ∙ ap is_some h))
    at false false e f = put_elsewhere es q n Awaited f ∙ h

-- and when another is defined
pub defined_keeps : (es : Entries) (loc : Option Name) (w : Word) (n : Name) → in_loc loc n ≡ false → meaning_of (defined es loc w) n ≡ meaning_of es n
defined_keeps es None w n h = refl
defined_keeps es (Some m) w n h = put_elsewhere es m n (Defined w) h

-- a name that is known is not in the LOC of a good card
pub not_loc : (s : State) (c : List ℕ) (n : Name) (w : Word) → cause_of false s c ≡ None → is_remark c ≡ false → known_as s.symbols n ≡ Some w → in_loc (loc_name c) n ≡ false
not_loc s c n w e r h = at (loc_name c) (ap (λ (b : Bool). not b && is_known s.symbols (loc_name c)) (sym r) ∙ free false s c e DefinedTwice)
  where
    at : (loc : Option Name) → is_known s.symbols loc ≡ false → in_loc loc n ≡ false
    at None f = refl
    at (Some m) f = on (name_same m n) refl
      where
        on : (b : Bool) → name_same m n ≡ b → name_same m n ≡ false
        on true g = absurd (both_ways _ f (ap (λ (k : Name). is_some (known_as s.symbols k)) (same_name m n g) ∙ ap is_some h))
        on false g = g

-- a meaning after a card whose LOC is another name
pub stays : (s : State) (c : List ℕ) (o : Operation) (n : Name) (m : Meaning) → in_loc (loc_name c) n ≡ false → meaning_of s.symbols n ≡ Some m → meaning_of (after_operation s c o).symbols n ≡ Some m
stays s c o n m l h =
    defined_keeps (named_in s.symbols (future_for s.symbols (address_of c) o)) (loc_name c) (loc_word s c o) n l
    ∙ named_keeps s.symbols (future_for s.symbols (address_of c) o) n m h

-- a definition stays after a card
known_on : (s : State) (c : List ℕ) (n : Name) (w : Word) → cause_of false s c ≡ None → known_as s.symbols n ≡ Some w → known_as (after_card s c).symbols n ≡ Some w
known_on s c n w e h = at (is_remark c) (operation_of (op_of c)) refl
  where
    at : (b : Bool) (o : Option Operation) → is_remark c ≡ b → known_as (cond b (after_remark s c) (after_named s c o)).symbols n ≡ Some w
    at true o r = h
    at false None r = h
    at false (Some o) r = ap (option_and_then word_in) (stays s c o n (Defined w) (not_loc s c n w e r h) (is_defined s.symbols n w h))

-- and while END supplies names
supplied_one_keeps : (loc : Option Name) (s : State) (q n : Name) (w : Word) → meaning_of s.symbols n ≡ Some (Defined w) → meaning_of (supplied_if loc s q).symbols n ≡ Some (Defined w)
supplied_one_keeps loc s q n w h = at (waits s.symbols loc q) (name_same q n) refl refl
  where
    at : (b v : Bool) → waits s.symbols loc q ≡ b → name_same q n ≡ v → meaning_of (cond b (supplied_one s q) s).symbols n ≡ Some (Defined w)
    at false v e f = h
    at true false e f = put_elsewhere s.symbols q n (Defined _) f ∙ h
    at true true e f =
        let p = and_parts (is_awaited (meaning_of s.symbols q)) (not (in_loc loc q)) e in
        let g = ap (λ (k : Name). is_awaited (meaning_of s.symbols k)) (sym (same_name q n f)) in
        absurd (both_ways _ (ap is_awaited h) (g ∙ p.0))

pub supplied_keeps : (loc : Option Name) (ns : List Name) (s : State) (n : Name) (w : Word) → meaning_of s.symbols n ≡ Some (Defined w) → meaning_of (supplied loc ns s).symbols n ≡ Some (Defined w)
supplied_keeps loc [] s n w h = h
supplied_keeps loc (q ∷ qs) s n w h = supplied_keeps loc qs (supplied_if loc s q) n w (supplied_one_keeps loc s q n w h)

pub end_not_remark : (c : List ℕ) → is_end c ≡ true → is_remark c ≡ false
end_not_remark c h = at (is_remark c) h
  where
    at : (b : Bool) → cond b false (is_end_of (operation_of (op_of c))) ≡ true → b ≡ false
    at true f = absurd (both_ways _ refl f)
    at false f = refl

-- a definition stays up to the end
pub known_all : (s : State) (cs : List (List ℕ)) (a : Assembled) (n : Name) (w : Word) → read_from s cs ≡ Ok a → known_as s.symbols n ≡ Some w → known_as a.symbols n ≡ Some w
known_all s [] a n w e h = let z : ◌≡◌ {A = ℕ} 0 1 = cc in absurd (omega arith)
known_all s (c ∷ cs) a n w e h = at (is_end c) refl (goes_on s c cs a e) (λ q k. known_all (after_card s c) cs a n w q k)
  where
    at : (b : Bool) → is_end c ≡ b → GoesOn s c cs a → (read_from (after_card s c) cs ≡ Ok a → known_as (after_card s c).symbols n ≡ Some w → known_as a.symbols n ≡ Some w) → known_as a.symbols n ≡ Some w
    at true f g rec =
        let l = not_loc s c n w g.0 (end_not_remark c f) h in
        ap (λ (v : Assembled). known_as v.symbols n) (g.1 f)
        ∙ ap (option_and_then word_in) (defined_keeps (at_end s c).symbols (loc_name c) _ n l ∙ supplied_keeps (loc_name c) s.awaited s n w (is_defined s.symbols n w h))
    at false f g rec = rec (g.2 f) (known_on s c n w g.0 h)

not_known : {A : Type 0} (o : Option A) → is_some o ≡ false → o ≡ None
not_known None h = refl
not_known (Some x) h = absurd (both_ways _ h refl)

end_alone : (o : Operation) → is_end_of (Some o) ≡ true → o ≡ End
end_alone (Machine i) h = absurd (both_ways _ refl h)
end_alone Equ h = absurd (both_ways _ refl h)
end_alone Orig h = absurd (both_ways _ refl h)
end_alone Con h = absurd (both_ways _ refl h)
end_alone Alf h = absurd (both_ways _ refl h)
end_alone End h = refl

-- a card that is no remark, by its operation
pub by_operation : (s : State) (c : List ℕ) (o : Operation) → is_remark c ≡ false → operation_of (op_of c) ≡ Some o → (after_card s c ≡ after_operation s c o) × (is_end c ≡ is_end_of (Some o))
by_operation s c o r e = (
  ap (λ (b : Bool). cond b (after_remark s c) (after_named s c (operation_of (op_of c)))) r ∙ ap (after_named s c) e,
  ap (λ (b : Bool). cond b false (is_end_of (operation_of (op_of c)))) r ∙ ap is_end_of e,
)

pub loc_there : (es : Entries) (loc : Option Name) (n : Name) (w : Word) → loc ≡ Some n → known_as (defined es loc w) n ≡ Some w
loc_there es loc n w e = ap (λ (l : Option Name). known_as (defined es l w) n) e ∙ ap (option_and_then word_in) (put_there es n (Defined w))

-- what LOC is defined by stands to the end
pub once : (s : State) (c : List ℕ) (cs : List (List ℕ)) (a : Assembled) (o : Operation) (n : Name) → read_from s (c ∷ cs) ≡ Ok a → is_remark c ≡ false → operation_of (op_of c) ≡ Some o → loc_name c ≡ Some n → (known_as s.symbols n ≡ None) × (known_as a.symbols n ≡ Some (loc_word (ready_for s c o) c o))
once s c cs a o n e r q l = (
  not_known _ (ap (is_known s.symbols) (sym l) ∙ ap (λ (b : Bool). not b && is_known s.symbols (loc_name c)) (sym r) ∙ free false s c (goes_on s c cs a e).0 DefinedTwice),
  at (is_end_of (Some o)) refl (goes_on s c cs a e),
)
  where
    at : (b : Bool) → is_end_of (Some o) ≡ b → GoesOn s c cs a → known_as a.symbols n ≡ Some (loc_word (ready_for s c o) c o)
    at true f g =
        let P : Operation → Type 0 = λ v. known_as a.symbols n ≡ Some (loc_word (ready_for s c v) c v) in
        subst P (sym (end_alone o f)) (ap (λ (v : Assembled). known_as v.symbols n) (g.1 ((by_operation s c o r q).1 ∙ f)) ∙ loc_there (at_end s c).symbols (loc_name c) n _ l)
    at false f g =
        let p = by_operation s c o r q in
        let es = named_in s.symbols (future_for s.symbols (address_of c) o) in
        known_all (after_card s c) cs a n (loc_word s c o) (g.2 (p.1 ∙ f)) (ap (λ (v : State). known_as v.symbols n) p.0 ∙ loc_there es (loc_name c) n (loc_word s c o) l)
        ∙ ap (λ (v : State). Some (loc_word v c o)) (sym (ready s c o f))
