-- A symbol that is awaited gets a value that an address can hold.
use Rattle.std.proofs.Common.{◌≡◌, ℕ, suc, ◌<◌, ◌≤◌, Bool, true, false, cond, not, ◌&&◌, ◌||◌, ltb, leb, ◌⊎◌, List, [], ◌∷◌, ◌++◌, length, is_some, Some, None, Ok, Option, unwrap_or, sym, refl, ap, ◌∙◌, subst, inl, inr, arith, leb-false, leb-true}
use Rattle.mixal.proofs.Found.{ready}
use Rattle.mixal.specs.Assembled.{read_from}
use Rattle.mixal.specs.Causes.{cause_of, out_of_range, on_operation, ready_for, is_location, suits, loc_awaited}
use Rattle.mixal.specs.Deck.{State, zero, after_card, after_named, after_operation, after_remark, awaited_after, named_in, future_for, loc_name, loc_word, here_after, is_end, is_end_of}
use Rattle.mixal.specs.Ends.{Assembled, ended, at_end, is_awaited, in_loc, waits, supplied_one, supplied_if, supplied}
use Rattle.mixal.specs.declared.cause.Cause.TheVariants.{Range}
use Rattle.names.specs.Names.{operation_of}
use Rattle.names.specs.declared.kinds.Operation.{Operation}
use Rattle.names.specs.declared.kinds.Operation.TheVariants.{Machine, Equ, Orig, Con, Alf, End}
use Rattle.scan.specs.Columns.{is_remark, op_of, address_of}
use Rattle.std.proofs.lemmas.Bool.{both_ways, and_parts, or_parts, not-false}
use Rattle.std.specs.Option.{option_and_then}
use Rattle.symbols.specs.Symbols.{meaning_of, word_in, known_as}
use Rattle.symbols.specs.declared.meaning.Meaning.{Meaning}
use Rattle.symbols.specs.declared.meaning.Meaning.TheVariants.{Defined, Awaited}
use Rattle.table.proofs.Orders.{name_same-Decides}
use Rattle.table.specs.Keys.{name_same}
use Rattle.table.specs.declared.name.Name.{Name}
use Rattle.word.proofs.Same.{word_of_magnitude}
use Rattle.word.specs.Word.{word_of}
use Rattle.word.specs.declared.sign.Sign.TheVariants.{Plus}
use Rattle.word.specs.declared.word.Word.{Word}
use Rattle.wvalues.specs.Pieces.{w_value_of}
use Rattle.deck_laws.proofs.Meanings.{Entries, same_name, put_there, put_elsewhere, loc_there, defined_keeps, stays, supplied_keeps, known_all, end_not_remark, by_operation}
use Rattle.deck_laws.proofs.Trace.{GoesOn, free, goes_on}

-- a name of a list
abbrev pub Member : Name → List Name → Type 0
Member n [] = ⊥
Member n (m ∷ ms) = (m ≡ n) ⊎ Member n ms

pub member_front : (n : Name) (xs ys : List Name) → Member n xs → Member n (xs ++ ys)
member_front n [] ys m = absurd m
member_front n (x ∷ xs) ys (inl e) = inl e
member_front n (x ∷ xs) ys (inr m) = inr (member_front n xs ys m)

pub member_last : (n : Name) (xs : List Name) → Member n (xs ++ n ∷ [])
member_last n [] = inl refl
member_last n (x ∷ xs) = inr (member_last n xs)

-- a name that waits for its definition
pub record Pending (s : State) (n : Name) : Type 0 where
  pub awaited : meaning_of s.symbols n ≡ Some Awaited
  pub listed : Member n s.awaited

-- a name whose value an address can hold
pub record Settled (es : Entries) (n : Name) : Type 0 where
  pub value : Word
  pub known : known_as es n ≡ Some value
  pub short : value.magnitude ≤ 4095

-- of a good card that is no remark no value is out of range
pub in_range : (s : State) (c : List ℕ) (o : Operation) → cause_of false s c ≡ None → is_remark c ≡ false → operation_of (op_of c) ≡ Some o → out_of_range (ready_for s c o).symbols (ready_for s c o).here c o ≡ false
in_range s c o e r q =
    ap (on_operation (λ v. out_of_range (ready_for s c v).symbols (ready_for s c v).here c v)) (sym q)
    ∙ ap (λ (b : Bool). not b && on_operation (λ v. out_of_range (ready_for s c v).symbols (ready_for s c v).here c v) (operation_of (op_of c))) (sym r)
    ∙ free false s c e Range

pub low_word : (h : ℕ) → (word_of Plus h).magnitude ≤ h
low_word h = let e = word_of_magnitude Plus h in omega (arith, e)

below : (h : ℕ) (b : Bool) → (leb 4000 h || b) ≡ false → h < 4000
below h b f = leb-false 4000 h (or_parts (leb 4000 h) b f).0

-- a location stays within memory and its end
orig_low : (o : Option Word) → not (is_location o) ≡ false → (unwrap_or o zero).magnitude ≤ 4000
orig_low None h = absurd (both_ways _ h refl)
orig_low (Some w) h = leb-true w.magnitude 4000 (and_parts _ _ (not-false _ h)).1

low_after : (s : State) (c : List ℕ) (o : Operation) → s.here ≤ 4000 → out_of_range (ready_for s c o).symbols (ready_for s c o).here c o ≡ false → here_after s c o ≤ 4000
low_after s c (Machine i) l f = let h = below s.here _ f in omega arith
low_after s c Equ l f = l
low_after s c Orig l f = orig_low (w_value_of s.symbols s.here (address_of c)) f
low_after s c Con l f = let h = below s.here _ f in omega arith
low_after s c Alf l f = let h : s.here < 4000 = leb-false 4000 s.here f in omega arith
low_after s c End l f = l

pub low_on : (s : State) (c : List ℕ) → cause_of false s c ≡ None → s.here ≤ 4000 → (after_card s c).here ≤ 4000
low_on s c e l = at (is_remark c) (operation_of (op_of c)) refl refl
  where
    at : (b : Bool) (o : Option Operation) → is_remark c ≡ b → operation_of (op_of c) ≡ o → (cond b (after_remark s c) (after_named s c o)).here ≤ 4000
    at true o r q = l
    at false None r q = l
    at false (Some o) r q = low_after s c o l (in_range s c o e r q)

-- the value that LOC gets, where its name is awaited
equ_short : (o : Option Word) → not (suits true o) ≡ false → (unwrap_or o zero).magnitude ≤ 4095
equ_short None h = absurd (both_ways _ h refl)
equ_short (Some w) h = leb-true w.magnitude 4095 (not-false _ h)

loc_short : (s : State) (c : List ℕ) (o : Operation) (n : Name) → s.here ≤ 4000 → is_end_of (Some o) ≡ false → out_of_range s.symbols s.here c o ≡ false → meaning_of s.symbols n ≡ Some Awaited → loc_name c ≡ Some n → (loc_word s c o).magnitude ≤ 4095
loc_short s c (Machine i) n l d f m e = let h = low_word s.here in omega arith
loc_short s c Equ n l d f m e =
    equ_short (w_value_of s.symbols s.here (address_of c))
    (ap (λ (b : Bool). not (suits b (w_value_of s.symbols s.here (address_of c)))) (sym (ap (loc_awaited s.symbols) e ∙ ap is_awaited m)) ∙ f)
loc_short s c Orig n l d f m e = let h = low_word s.here in omega arith
loc_short s c Con n l d f m e = let h = low_word s.here in omega arith
loc_short s c Alf n l d f m e = let h = low_word s.here in omega arith
loc_short s c End n l d f m e = absurd (both_ways _ d refl)

-- the name in LOC, told by the test
pub loc_is : (loc : Option Name) (n : Name) → in_loc loc n ≡ true → loc ≡ Some n
loc_is None n h = absurd (both_ways _ refl h)
loc_is (Some m) n h = ap Some (same_name m n h)

-- a name awaited stays listed
listed_on : (es : Entries) (ns : List Name) (future : Option Name) (n : Name) → Member n ns → Member n (awaited_after es ns future)
listed_on es ns None n m = m
listed_on es ns (Some q) n m = at (is_some (meaning_of es q))
  where
    at : (b : Bool) → Member n (cond b ns (ns ++ (q ∷ [])))
    at true = m
    at false = member_front n ns (q ∷ []) m

-- while END supplies names the location only grows
supply_up : (loc : Option Name) (ns : List Name) (s : State) → s.here ≤ (supplied loc ns s).here
supply_up loc [] s = omega arith
supply_up loc (q ∷ qs) s = at (waits s.symbols loc q) refl (supply_up loc qs (supplied_if loc s q))
  where
    at : (b : Bool) → waits s.symbols loc q ≡ b → (supplied_if loc s q).here ≤ (supplied loc qs (supplied_if loc s q)).here → s.here ≤ (supplied loc qs (supplied_if loc s q)).here
    at true e h = let k = ap (λ (b : Bool). (cond b (supplied_one s q) s).here) e in omega arith
    at false e h = let k = ap (λ (b : Bool). (cond b (supplied_one s q) s).here) e in omega arith

-- a name supplied, and where
pub record Supplied (es : Entries) (n : Name) (bound : ℕ) : Type 0 where
  pub location : ℕ
  pub means : meaning_of es n ≡ Some (Defined (word_of Plus location))
  pub under : location ≤ bound

supply_name : (loc : Option Name) (ns : List Name) (s : State) (n : Name) → in_loc loc n ≡ false → meaning_of s.symbols n ≡ Some Awaited → Member n ns → Supplied (supplied loc ns s).symbols n (supplied loc ns s).here
supply_name loc [] s n l h m = absurd m
supply_name loc (q ∷ qs) s n l h m = at (name_same q n) refl (supply_name loc qs (supplied_if loc s q) n l)
  where
    at : (b : Bool) → name_same q n ≡ b → (meaning_of (supplied_if loc s q).symbols n ≡ Some Awaited → Member n qs → Supplied (supplied loc qs (supplied_if loc s q)).symbols n (supplied loc qs (supplied_if loc s q)).here) → Supplied (supplied loc qs (supplied_if loc s q)).symbols n (supplied loc qs (supplied_if loc s q)).here
    at true e rec =
        let k = same_name q n e in
        let w : waits s.symbols loc q ≡ true =
        ap (λ (v : Name). waits s.symbols loc v) k ∙ ap (λ (v : Option Meaning). is_awaited v && not (in_loc loc n)) h ∙ ap not l
        in
        let t : supplied_if loc s q ≡ supplied_one s q = ap (λ (b : Bool). cond b (supplied_one s q) s) w in
        let d : meaning_of (supplied_if loc s q).symbols n ≡ Some (Defined (word_of Plus s.here)) =
        ap (λ (v : State). meaning_of v.symbols n) t ∙ ap (meaning_of (supplied_one s q).symbols) (sym k) ∙ put_there s.symbols q (Defined (word_of Plus s.here))
        in
        let u = supply_up loc qs (supplied_if loc s q) in
        let g = ap (λ (v : State). v.here) t in
        record { location = s.here; means = supplied_keeps loc qs (supplied_if loc s q) n (word_of Plus s.here) d; under = omega arith }
    at false e rec = rec (kept (waits s.symbols loc q)) (later m)
      where
        kept : (b : Bool) → meaning_of (cond b (supplied_one s q) s).symbols n ≡ Some Awaited
        kept true = put_elsewhere s.symbols q n (Defined (word_of Plus s.here)) e ∙ h
        kept false = h

        later : Member n (q ∷ qs) → Member n qs
        later (inl f) = absurd (both_ways _ e ((name_same-Decides q n).1 f))
        later (inr f) = f

-- END settles a name that waits
end_settles : (s : State) (c : List ℕ) (n : Name) → cause_of false s c ≡ None → is_end c ≡ true → Pending s n → Settled (ended (length s.drafts) (at_end s c) c).symbols n
end_settles s c n e f p = at (in_loc (loc_name c) n) refl (low (operation_of (op_of c)) refl refl)
  where
    -- the location after the names supplied lies within memory and its end
    low : (o : Option Operation) → operation_of (op_of c) ≡ o → is_end_of (operation_of (op_of c)) ≡ is_end_of o → (at_end s c).here ≤ 4000
    low o q g = on o q (sym g ∙ ap (λ (b : Bool). cond b false (is_end_of (operation_of (op_of c)))) (sym (end_not_remark c f)) ∙ f)
      where
        on : (o : Option Operation) → operation_of (op_of c) ≡ o → is_end_of o ≡ true → (at_end s c).here ≤ 4000
        on None q h = absurd (both_ways _ refl h)
        on (Some (Machine i)) q h = absurd (both_ways _ refl h)
        on (Some Equ) q h = absurd (both_ways _ refl h)
        on (Some Orig) q h = absurd (both_ways _ refl h)
        on (Some Con) q h = absurd (both_ways _ refl h)
        on (Some Alf) q h = absurd (both_ways _ refl h)
        on (Some End) q h =
            let k = or_parts (ltb 4000 (at_end s c).here) _ (in_range s c End e (end_not_remark c f) q) in
            let l = leb-false (suc 4000) (at_end s c).here k.0 in
            omega arith

    at : (b : Bool) → in_loc (loc_name c) n ≡ b → (at_end s c).here ≤ 4000 → Settled (ended (length s.drafts) (at_end s c) c).symbols n
    at true g l =
        let w = low_word (at_end s c).here in
        record {
          value = word_of Plus (at_end s c).here;
          known = loc_there (at_end s c).symbols (loc_name c) n (word_of Plus (at_end s c).here) (loc_is (loc_name c) n g);
          short = omega arith;
        }
    at false g l =
        let d = supply_name (loc_name c) s.awaited s n g p.awaited p.listed in
        let w = low_word d.location in
        let u = d.under in
        record {
          value = word_of Plus d.location;
          known = ap (option_and_then word_in) (defined_keeps (at_end s c).symbols (loc_name c) _ n g ∙ d.means);
          short = omega arith;
        }

-- one card settles it, or it waits on
card_on : (s : State) (c : List ℕ) (n : Name) → s.here ≤ 4000 → cause_of false s c ≡ None → is_end c ≡ false → Pending s n → Pending (after_card s c) n ⊎ Settled (after_card s c).symbols n
card_on s c n l e f p = at (is_remark c) (operation_of (op_of c)) refl refl
  where
    on : (o : Operation) (b : Bool) → is_remark c ≡ false → operation_of (op_of c) ≡ Some o → in_loc (loc_name c) n ≡ b → Pending (after_operation s c o) n ⊎ Settled (after_operation s c o).symbols n
    on o false r q g =
        inl (record {
          awaited = stays s c o n Awaited g p.awaited;
          listed = listed_on s.symbols s.awaited (future_for s.symbols (address_of c) o) n p.listed;
        })
    on o true r q g =
        let d : is_end_of (Some o) ≡ false = sym (by_operation s c o r q).1 ∙ f in
        let k = loc_is (loc_name c) n g in
        let range = ap (λ (v : State). out_of_range v.symbols v.here c o) (sym (ready s c o d)) ∙ in_range s c o e r q in
        inr (record {
          value = loc_word s c o;
          known = loc_there (named_in s.symbols (future_for s.symbols (address_of c) o)) (loc_name c) n (loc_word s c o) k;
          short = loc_short s c o n l d range p.awaited k;
        })

    at : (b : Bool) (o : Option Operation) → is_remark c ≡ b → operation_of (op_of c) ≡ o → Pending (cond b (after_remark s c) (after_named s c o)) n ⊎ Settled (cond b (after_remark s c) (after_named s c o)).symbols n
    at true o r q = inl (record { awaited = p.awaited; listed = p.listed })
    at false None r q = inl p
    at false (Some o) r q = on o (in_loc (loc_name c) n) r q refl

-- a value stays to the end
pub settled_all : (s : State) (cs : List (List ℕ)) (a : Assembled) (n : Name) → read_from s cs ≡ Ok a → Settled s.symbols n → Settled a.symbols n
settled_all s cs a n e d = record { value = d.value; known = known_all s cs a n d.value e d.known; short = d.short }

pub settles : (s : State) (cs : List (List ℕ)) (a : Assembled) (n : Name) → read_from s cs ≡ Ok a → s.here ≤ 4000 → Pending s n → Settled a.symbols n
settles s [] a n e l p = let z : ◌≡◌ {A = ℕ} 0 1 = cc in absurd (omega arith)
settles s (c ∷ cs) a n e l p = at (is_end c) refl (goes_on s c cs a e) (λ q k w. settles (after_card s c) cs a n q k w)
  where
    at : (b : Bool) → is_end c ≡ b → GoesOn s c cs a → (read_from (after_card s c) cs ≡ Ok a → (after_card s c).here ≤ 4000 → Pending (after_card s c) n → Settled a.symbols n) → Settled a.symbols n
    at true f g rec = let P : Assembled → Type 0 = λ v. Settled v.symbols n in subst P (sym (g.1 f)) (end_settles s c n g.0 f p)
    at false f g rec = on (card_on s c n l g.0 f p)
      where
        on : Pending (after_card s c) n ⊎ Settled (after_card s c).symbols n → Settled a.symbols n
        on (inl q) = rec (g.2 f) (low_on s c g.0 l) q
        on (inr d) = settled_all (after_card s c) cs a n (g.2 f) d
