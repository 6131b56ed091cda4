-- An A-part that is one symbol carries the symbol's value.
use Rattle.std.proofs.Common.{◌≡◌, ℕ, zero, suc, ◌<◌, ◌≤◌, Bool, true, false, cond, ◌&&◌, ◌||◌, eqb, leb, List, [], ◌∷◌, ◌++◌, length, get_or, is_some, Some, None, Ok, Option, unwrap_or, sym, refl, ap, ◌∙◌, subst, arith, leb-true}
use Rattle.eval.specs.Eval.{as_number, value_of}
use Rattle.instructions.specs.Instructions.{unless_known, future_of, as_address, a_word, up_to_bound, part_number, instruction_word, word_of_parts, assembled_word}
use Rattle.mixal.specs.Assembled.{read_from}
use Rattle.mixal.specs.Deck.{State, fresh, zero as zero_word, after_card, after_named, after_operation, after_remark, awaited_after, named_in, future_name, future_for, defined, loc_name, loc_word, a_part, made_with, is_end}
use Rattle.mixal.specs.Ends.{Assembled, addressed, placed, in_loc}
use Rattle.mixal.specs.declared.draft.Made.{Made}
use Rattle.mixal.specs.declared.line.Line.{Line}
use Rattle.names.proofs.Found.{name_laws}
use Rattle.names.proofs.Rule.{right_at, is_fit}
use Rattle.names.specs.Names.{operation_of}
use Rattle.names.specs.declared.kinds.Instruction.{Instruction}
use Rattle.names.specs.declared.kinds.Operation.{Operation}
use Rattle.names.specs.declared.kinds.Operation.TheVariants.{Machine}
use Rattle.scan.specs.Address.{parts_of}
use Rattle.scan.specs.Columns.{is_remark, op_of, address_of}
use Rattle.scan.specs.Symbols.{name_of}
use Rattle.std.proofs.lemmas.Bool.{both_ways, or_parts, not-false, ne_eqb}
use Rattle.std.specs.Option.{option_map, option_and_then}
use Rattle.symbols.specs.Symbols.{meaning_of, word_in, known_as}
use Rattle.symbols.specs.declared.meaning.Meaning.{Meaning}
use Rattle.symbols.specs.declared.meaning.Meaning.TheVariants.{Defined, Awaited}
use Rattle.table.specs.Keys.{name_before, name_same}
use Rattle.table.specs.Pairs.{put}
use Rattle.table.specs.declared.name.Name.{Name}
use Rattle.word.specs.Word.{word_of}
use Rattle.word.specs.declared.sign.Sign.TheVariants.{Plus}
use Rattle.word.specs.declared.word.Word.{Word}
use Rattle.wvalues.specs.Pieces.{is_plus}
use Rattle.deck_laws.specs.Defined.{address_in, Carries, Defined as Definitions}
use Rattle.deck_laws.specs.Reading.{Reads}
use Rattle.deck_laws.specs.Words.{made_by, made_named}
use Rattle.deck_laws.proofs.Addressed.{address_made, address_stored}
use Rattle.deck_laws.proofs.Alone.{symbol_value, number_magnitude}
use Rattle.deck_laws.proofs.Meanings.{Entries, same_name, put_there, put_elsewhere, loc_there, defined_keeps, known_all, by_operation, once}
use Rattle.deck_laws.proofs.Settled.{Member, member_front, member_last, Settled, in_range, low_on, low_word, loc_is, settled_all, settles}
use Rattle.deck_laws.proofs.Shown.{shown}
use Rattle.deck_laws.proofs.Trace.{GoesOn, goes_on, from_card}

-- C and F of an operation are bytes
fit : (w : List ℕ) (i : Instruction) → operation_of w ≡ Some (Machine i) → (i.c < 64) × (i.f < 64)
fit w i e = is_fit (Some i) (right_at (w, Machine i) (name_laws.only w (Machine i) e)).2

-- an index and a field are bytes
part_bound : (es : Entries) (here n missing : ℕ) (o : Option (List ℕ)) (x : ℕ) → n < 64 → missing < 64 → part_number es here n missing o ≡ Some x → x < 64
part_bound es here n missing None x p q e = let k : missing ≡ x = cc in omega arith
part_bound es here n missing (Some text) x p q e = at (value_of es here text) e
  where
    on : (w : Word) (b c : Bool) → leb w.magnitude n ≡ c → cond (b && c) (Some w.magnitude) None ≡ Some x → x < 64
    on w true true l f = let k : w.magnitude ≡ x = cc in let m = leb-true w.magnitude n l in omega arith
    on w true false l f = let z : ◌≡◌ {A = ℕ} 0 1 = cc in absurd (omega arith)
    on w false c l f = let z : ◌≡◌ {A = ℕ} 0 1 = cc in absurd (omega arith)

    at : (o : Option Word) → option_and_then (up_to_bound n) o ≡ Some x → x < 64
    at None f = let z : ◌≡◌ {A = ℕ} 0 1 = cc in absurd (omega arith)
    at (Some w) f = on w (is_plus w.sign) (leb w.magnitude n) refl f

-- the parts of an instruction joined
abbrev join : ℕ → Option ℕ → Option ℕ → Option Word → Option Word
join c index field a = option_and_then (λ (v : Word). option_and_then (λ (i : ℕ). option_map (λ (f : ℕ). instruction_word v i f c) field) index) a

join_address : (c : ℕ) (index field : Option ℕ) (a : Option Word) (u : Word) → c < 64 → ((x : ℕ) → index ≡ Some x → x < 64) → ((x : ℕ) → field ≡ Some x → x < 64) → a ≡ as_address u → is_some (join c index field a) ≡ true → address_in (unwrap_or (join c index field a) zero_word) ≡ u
join_address c index field None u k p q e h = absurd (both_ways _ refl h)
join_address c None field (Some v) u k p q e h = absurd (both_ways _ refl h)
join_address c (Some i) None (Some v) u k p q e h = absurd (both_ways _ refl h)
join_address c (Some i) (Some f) (Some v) u k p q e h = at (leb u.magnitude 4095) refl e
  where
    at : (b : Bool) → leb u.magnitude 4095 ≡ b → Some v ≡ cond b (Some u) None → address_in (instruction_word v i f c) ≡ u
    at true l g =
        let same : v ≡ u = cc in
        let P : Word → Type 0 = λ w. address_in (instruction_word w i f c) ≡ u in
        subst P (sym same) (address_made u i f c (leb-true u.magnitude 4095 l) (p i refl) (q f refl) k)
    at false l g = let z : ◌≡◌ {A = ℕ} 0 1 = cc in absurd (omega arith)

filled : (bs cs : List ℕ) → name_of bs ≡ Some cs → eqb (length bs) 0 ≡ false
filled [] cs e = let z : ◌≡◌ {A = ℕ} 0 1 = cc in absurd (omega arith)
filled (b ∷ bs) cs e = ne_eqb (suc (length bs)) 0 (λ z. omega arith)

-- a symbol that is defined is no future one
known_now : (es : Entries) (bs cs : List ℕ) (v : Word) → name_of bs ≡ Some cs → known_as es (record { codes = cs }) ≡ Some v → future_of es bs ≡ None
known_now es bs cs v e k = ap (option_and_then (unless_known es)) e ∙ ap (λ (o : Option Word). cond (is_some o) None (Some cs)) k

-- the word of an instruction whose A-part is a symbol defined before
past : (es : Entries) (here c missing : ℕ) (parts : Option (List ℕ × Option (List ℕ) × Option (List ℕ))) (cs : List ℕ) (v : Word) → c < 64 → missing < 64 → name_of (unwrap_or (option_map (λ p. p.0) parts) []) ≡ Some cs → known_as es (record { codes = cs }) ≡ Some v → is_some (word_of_parts es here c missing parts) ≡ true → address_in (unwrap_or (word_of_parts es here c missing parts) zero_word) ≡ as_number v
past es here c missing None cs v p q e k h = absurd (both_ways _ refl h)
past es here c missing (Some parts) cs v p q e k h =
    let a : a_word es here parts.0 ≡ as_address (as_number v) =
    ap (λ (b : Bool). cond (b || is_some (future_of es parts.0)) (Some (word_of Plus 0)) (option_and_then as_address (value_of es here parts.0))) (filled parts.0 cs e)
    ∙ ap (λ (o : Option (List ℕ)). cond (is_some o) (Some (word_of Plus 0)) (option_and_then as_address (value_of es here parts.0))) (known_now es parts.0 cs v e k)
    ∙ ap (option_and_then as_address) (symbol_value es here parts.0 cs v e k)
    in
    join_address c (part_number es here 6 0 parts.1) (part_number es here 63 missing parts.2) (a_word es here parts.0) (as_number v) p
    (λ x f. part_bound es here 6 0 parts.1 x (omega arith) (omega arith) f) (λ x f. part_bound es here 63 missing parts.2 x (omega arith) q f) a h

-- every name that is awaited is listed
abbrev Listed : State → Type 0
Listed s = (n : Name) → meaning_of s.symbols n ≡ Some Awaited → Member n s.awaited

listed_named : (es : Entries) (ns : List Name) (future : Option Name) (n : Name) → ((m : Name) → meaning_of es m ≡ Some Awaited → Member m ns) → meaning_of (named_in es future) n ≡ Some Awaited → Member n (awaited_after es ns future)
listed_named es ns None n l h = l n h
listed_named es ns (Some q) n l h = at (is_some (meaning_of es q)) (name_same q n) refl h
  where
    at : (b v : Bool) → name_same q n ≡ v → meaning_of (cond b es (put name_before name_same es q Awaited)) n ≡ Some Awaited → Member n (cond b ns (ns ++ (q ∷ [])))
    at true v e f = l n f
    at false true e f = let P : Name → Type 0 = λ m. Member m (ns ++ (q ∷ [])) in subst P (same_name q n e) (member_last q ns)
    at false false e f = member_front n ns (q ∷ []) (l n (sym (put_elsewhere es q n Awaited e) ∙ f))

listed_on : (s : State) (c : List ℕ) → Listed s → Listed (after_card s c)
listed_on s c l n h = at (is_remark c) (operation_of (op_of c)) h
  where
    loc : (es : Entries) (o : Option Name) (w : Word) → meaning_of (defined es o w) n ≡ Some Awaited → meaning_of es n ≡ Some Awaited
    loc es None w e = e
    loc es (Some m) w e = on (name_same m n) refl
      where
        on : (b : Bool) → name_same m n ≡ b → meaning_of es n ≡ Some Awaited
        on true f =
            let g = sym (put_there es m (Defined w)) ∙ ap (meaning_of (put name_before name_same es m (Defined w))) (same_name m n f) ∙ e in
            let z : ◌≡◌ {A = ℕ} 0 1 = cc in
            absurd (omega arith)
        on false f = sym (put_elsewhere es m n (Defined w) f) ∙ e

    at : (b : Bool) (o : Option Operation) → meaning_of (cond b (after_remark s c) (after_named s c o)).symbols n ≡ Some Awaited → Member n (cond b (after_remark s c) (after_named s c o)).awaited
    at true o e = l n e
    at false None e = l n e
    at false (Some o) e =
        let future = future_for s.symbols (address_of c) o in
        listed_named s.symbols s.awaited future n l (loc (named_in s.symbols future) (loc_name c) (loc_word s c o) e)

-- what holds of every state in which a card is read
pub record Sound (s : State) : Type 0 where
  pub low : s.here ≤ 4000
  pub listed : Listed s

sound_at : (s : State) (cs : List (List ℕ)) (k : ℕ) (t : State) (c : List ℕ) (rest : List (List ℕ)) (a : Assembled) → read_from s cs ≡ Ok a → Sound s → Reads s cs k t c rest → Sound t
sound_at s [] k t c rest a e p r = absurd r
sound_at s (d ∷ ds) zero t c rest a e p r = subst Sound (sym r.0) p
sound_at s (d ∷ ds) (suc k) t c rest a e p r =
    let g = goes_on s d ds a e in
    sound_at (after_card s d) ds k t c rest a (g.2 r.0) (record { low = low_on s d g.0 p.low; listed = listed_on s d p.listed }) r.1

fresh_sound : Sound fresh
fresh_sound = record { low = omega arith; listed = λ n h. let z : ◌≡◌ {A = ℕ} 0 1 = cc in absurd (omega arith) }

-- a card whose A-part is a symbol not yet defined
module _ (t : State) (c : List ℕ) (ds : List (List ℕ)) (a : Assembled) (i : Instruction) (cs : List ℕ) (e : read_from t (c ∷ ds) ≡ Ok a) (p : Sound t) (r : is_remark c ≡ false) (q : operation_of (op_of c) ≡ Some (Machine i)) (name : name_of (a_part (address_of c)) ≡ Some cs) where
  abbrev n : Name
  n = record { codes = cs }

  g : GoesOn t c ds a
  g = goes_on t c ds a e

  pub not_end : is_end c ≡ false
  not_end = (by_operation t c (Machine i) r q).1

  pub future_now : known_as t.symbols n ≡ None → future_name t.symbols (address_of c) ≡ Some n
  future_now k =
      ap (λ (o : Option (List ℕ)). option_map (λ codes. record { codes = codes }) (option_and_then (unless_known t.symbols) o)) name
      ∙ ap (λ (o : Option Word). option_map (λ codes. record { codes = codes }) (cond (is_some o) None (Some cs))) k

  pub past_now : (v : Word) → known_as t.symbols n ≡ Some v → future_name t.symbols (address_of c) ≡ None
  past_now v k = ap (option_map (λ codes. record { codes = codes })) (known_now t.symbols (a_part (address_of c)) cs v name k)

  -- it waits, unless the card's own LOC is that symbol
  waits_now : known_as t.symbols n ≡ None → in_loc (loc_name c) n ≡ false → meaning_of (after_operation t c (Machine i)).symbols n ≡ Some Awaited
  waits_now k l =
      defined_keeps (named_in t.symbols (future_name t.symbols (address_of c))) (loc_name c) (word_of Plus t.here) n l
      ∙ ap (λ (o : Option Name). meaning_of (named_in t.symbols o) n) (future_now k)
      ∙ at (meaning_of t.symbols n) refl k
    where
      at : (o : Option Meaning) → meaning_of t.symbols n ≡ o → option_and_then word_in o ≡ None → meaning_of (cond (is_some (meaning_of t.symbols n)) t.symbols (put name_before name_same t.symbols n Awaited)) n ≡ Some Awaited
      at None f h = ap (λ (o : Option Meaning). meaning_of (cond (is_some o) t.symbols (put name_before name_same t.symbols n Awaited)) n) f ∙ put_there t.symbols n Awaited
      at (Some (Defined w)) f h = let z : ◌≡◌ {A = ℕ} 0 1 = cc in absurd (omega arith)
      at (Some Awaited) f h = ap (λ (o : Option Meaning). meaning_of (cond (is_some o) t.symbols (put name_before name_same t.symbols n Awaited)) n) f ∙ f

  pub settled_then : known_as t.symbols n ≡ None → Settled a.symbols n
  settled_then k = at (in_loc (loc_name c) n) refl (by_operation t c (Machine i) r q).0
    where
      at : (b : Bool) → in_loc (loc_name c) n ≡ b → after_card t c ≡ after_operation t c (Machine i) → Settled a.symbols n
      at true f s =
          let w = low_word t.here in
          let l = p.low in
          settled_all (after_card t c) ds a n (g.2 not_end) (record {
            value = word_of Plus t.here;
            known = ap (λ (v : State). known_as v.symbols n) s ∙ loc_there (named_in t.symbols (future_name t.symbols (address_of c))) (loc_name c) n (word_of Plus t.here) (loc_is (loc_name c) n f);
            short = omega arith;
          })
      at false f s =
          let m = ap (λ (v : State). meaning_of v.symbols n) s ∙ waits_now k f in
          settles (after_card t c) ds a n (g.2 not_end) (low_on t c g.0 p.low) (record { awaited = m; listed = listed_on t c p.listed n m })

  -- the word that the card assembles, as far as it is known
  abbrev w : Word
  w = unwrap_or (assembled_word t.symbols t.here i.c i.f (address_of c)) zero_word

  pub made_is : made_by t c ≡ made_with t.here w (future_name t.symbols (address_of c))
  made_is = ap (λ (b : Bool). cond b None (made_named t c (operation_of (op_of c)))) r ∙ ap (made_named t c) q

  pub past_address : (v : Word) → known_as t.symbols n ≡ Some v → address_in w ≡ as_number v
  past_address v k =
      let f = fit (op_of c) i q in
      let some = not-false _ (or_parts _ _ (in_range t c (Machine i) g.0 r q)).1 in
      past t.symbols t.here i.c i.f (parts_of (address_of c)) cs v f.0 f.1 name k some

carries : (cards : List (List ℕ)) (a : Assembled) → read_from fresh cards ≡ Ok a → (k : ℕ) (t : State) (c : List ℕ) (rest : List (List ℕ)) (i : Instruction) (cs : List ℕ) → Reads fresh cards k t c rest → is_remark c ≡ false → operation_of (op_of c) ≡ Some (Machine i) → name_of (a_part (address_of c)) ≡ Some cs → Carries a k (record { codes = cs })
carries cards a e k t c rest i cs r m q name = at (known_as t.symbols (record { codes = cs })) refl
  where
    f : read_from t (c ∷ rest) ≡ Ok a
    f = (from_card fresh cards k t c rest a e r).0

    s : Sound t
    s = sound_at fresh cards k t c rest a e fresh_sound r

    line : (made : Option Made) → made_by t c ≡ made → (d : Line) → (get_or a.lines k d).at ≡ placed a.symbols made
    line made h d = ap (λ (x : Line). x.at) (shown cards a e k t c rest d r (not_end t c rest a i cs f s m q name)) ∙ ap (placed a.symbols) h

    word : Word
    word = w t c rest a i cs f s m q name

    at : (o : Option Word) → known_as t.symbols (record { codes = cs }) ≡ o → Carries a k (record { codes = cs })
    at (Some v) h =
        let made = made_is t c rest a i cs f s m q name ∙ ap (made_with t.here word) (past_now t c rest a i cs f s m q name v h) in
        record {
          value = v;
          known = known_all t (c ∷ rest) a (record { codes = cs }) v f h;
          location = t.here;
          word = word;
          line = line (made_with t.here word None) made;
          address = past_address t c rest a i cs f s m q name v h;
        }
    at None h =
        let d = settled_then t c rest a i cs f s m q name h in
        let made = made_is t c rest a i cs f s m q name ∙ ap (made_with t.here word) (future_now t c rest a i cs f s m q name h) in
        let final = line (made_with t.here word (Some (record { codes = cs }))) made in
        record {
          value = d.value;
          known = d.known;
          location = t.here;
          word = addressed (Some d.value) word;
          line = λ x. final x ∙ ap (λ (o : Option Word). Some (t.here, addressed o word)) d.known;
          address = address_stored (as_number d.value) word (let u = number_magnitude d.value in let l = d.short in omega arith);
        }

pub definitions : (cards : List (List ℕ)) (a : Assembled) → read_from fresh cards ≡ Ok a → Definitions cards a
definitions cards a e =
    record {
      once = λ k t c rest o n r m q l. once t c rest a o n (from_card fresh cards k t c rest a e r).0 m q l;
      carried = carries cards a e;
    }
