-- The lines of a deck are those of its cards, then those that END adds, then END's.
use Rattle.std.proofs.Common.{◌≡◌, ℕ, zero, suc, ◌+◌, ◌-◌, ◌<◌, ◌≤◌, Bool, true, false, cond, not, ◌&&◌, List, [], ◌∷◌, ◌++◌, map, length, get_or, is_some, Some, None, Ok, Option, sym, refl, ap, ◌∙◌, subst, arith}
use Rattle.card.specs.Text.{padded}
use Rattle.mixal.specs.Assembled.{read_from}
use Rattle.mixal.specs.Causes.{cause_of}
use Rattle.mixal.specs.Deck.{State, fresh, zero as zero_word, after_card, after_named, after_remark, drafted, loc_name, is_end, made_with}
use Rattle.mixal.specs.Ends.{Assembled, ended, at_end, supplied, supplied_if, supplied_one, waits, blank, placed, resolved}
use Rattle.mixal.specs.declared.cause.Cause.TheVariants.{Operation as NoOperation}
use Rattle.mixal.specs.declared.draft.Draft.{Draft}
use Rattle.mixal.specs.declared.line.Line.{Line}
use Rattle.names.specs.Names.{operation_of}
use Rattle.names.specs.declared.kinds.Operation.{Operation}
use Rattle.scan.specs.Columns.{is_remark, op_of}
use Rattle.std.proofs.lemmas.List.{append_assoc, append-nil, map-append, get_or_at, length-append, length-map, get_or_append_left, get_or-append_right}
use Rattle.std.proofs.lemmas.Bool.{both_ways}
use Rattle.table.specs.declared.name.Name.{Name}
use Rattle.deck_laws.specs.Reading.{Reads}
use Rattle.deck_laws.specs.Words.{made_by, made_named, Words}
use Rattle.deck_laws.proofs.Trace.{GoesOn, free, goes_on, from_card}

-- a good card adds its draft
pub adds : (s : State) (c : List ℕ) → cause_of false s c ≡ None → (after_card s c).drafts ≡ drafted s c (made_by s c)
adds s c e = at (is_remark c) (operation_of (op_of c)) refl (free false s c e NoOperation)
  where
    at : (b : Bool) (o : Option Operation) → is_remark c ≡ b → (not (is_remark c) && not (is_some o)) ≡ false → (cond b (after_remark s c) (after_named s c o)).drafts ≡ drafted s c (cond b None (made_named s c o))
    at true o h f = refl
    at false None h f = absurd (both_ways _ f (ap (λ (b : Bool). not b && true) h))
    at false (Some o) h f = refl

-- the draft of a word that END adds
pub record Added (d : Draft) : Type 0 where
  pub location : ℕ
  pub is : d ≡ record { card = blank; made = made_with location zero_word None }

-- all of a list are such drafts
abbrev AllAdded : List Draft → Type 0
AllAdded [] = Unit {0}
AllAdded (d ∷ ds) = Added d × AllAdded ds

supply_one : (loc : Option Name) (s : State) (n : Name) → (ds : List Draft) × AllAdded ds × ((supplied_if loc s n).drafts ≡ s.drafts ++ ds)
supply_one loc s n = at (waits s.symbols loc n)
  where
    at : (b : Bool) → (ds : List Draft) × AllAdded ds × ((cond b (supplied_one s n) s).drafts ≡ s.drafts ++ ds)
    at true = (record { card = blank; made = made_with s.here zero_word None } ∷ [], (record { location = s.here; is = refl }, tt), refl)
    at false = ([], tt, sym (append-nil s.drafts))

added_both : (xs ys : List Draft) → AllAdded xs → AllAdded ys → AllAdded (xs ++ ys)
added_both [] ys p q = q
added_both (x ∷ xs) ys p q = (p.0, added_both xs ys p.1 q)

supply_all : (loc : Option Name) (ns : List Name) (s : State) → (ds : List Draft) × AllAdded ds × ((supplied loc ns s).drafts ≡ s.drafts ++ ds)
supply_all loc [] s = ([], tt, sym (append-nil s.drafts))
supply_all loc (n ∷ ns) s =
    let p = supply_one loc s n in
    let q = supply_all loc ns (supplied_if loc s n) in
    (p.0 ++ q.0, added_both p.0 q.0 p.1 q.1, q.2 ∙ ap (λ (l : List Draft). l ++ q.0) p.2 ∙ append_assoc s.drafts p.0 q.0)

-- END's card gives the lines of the drafts so far, those that it adds, and its own
ends_with : (s : State) (c : List ℕ) (a : Assembled) → a ≡ ended (length s.drafts) (at_end s c) c → (ds : List Draft) × AllAdded ds × (a.lines ≡ (map (resolved a.symbols) s.drafts ++ map (resolved a.symbols) ds) ++ record { at = None; card = padded c } ∷ [])
ends_with s c a q =
    let p = supply_all (loc_name c) s.awaited s in
    let f = resolved (ended (length s.drafts) (at_end s c) c).symbols in
    let end : List Line = record { at = None; card = padded c } ∷ [] in
    let P : Assembled → Type 0 = λ v. (ds : List Draft) × AllAdded ds × (v.lines ≡ (map (resolved v.symbols) s.drafts ++ map (resolved v.symbols) ds) ++ end) in
    subst P (sym q) (p.0, p.1, ap (λ (l : List Draft). map f l ++ end) p.2 ∙ ap (λ (l : List Line). l ++ end) (map-append f s.drafts p.0))

-- the lines of the drafts so far are the first lines of the deck
abbrev Fronts : State → Assembled → Type 0
Fronts s a = (more : List Line) × (a.lines ≡ map (resolved a.symbols) s.drafts ++ more)

fronts_card : (s : State) (c : List ℕ) (a : Assembled) → cause_of false s c ≡ None → Fronts (after_card s c) a → Fronts s a
fronts_card s c a e r =
    let f = resolved a.symbols in
    let d : List Draft = record { card = padded c; made = made_by s c } ∷ [] in (
      map f d ++ r.0,
      r.1 ∙ ap (λ (l : List Draft). map f l ++ r.0) (adds s c e)
          ∙ ap (λ (l : List Line). l ++ r.0) (map-append f s.drafts d)
          ∙ append_assoc (map f s.drafts) (map f d) r.0,
    )

pub fronts : (s : State) (cs : List (List ℕ)) (a : Assembled) → read_from s cs ≡ Ok a → Fronts s a
fronts s [] a e = let z : ◌≡◌ {A = ℕ} 0 1 = cc in absurd (omega arith)
fronts s (c ∷ cs) a e = at (is_end c) refl (goes_on s c cs a e) (λ h. fronts (after_card s c) cs a h)
  where
    at : (b : Bool) → is_end c ≡ b → GoesOn s c cs a → (read_from (after_card s c) cs ≡ Ok a → Fronts (after_card s c) a) → Fronts s a
    at true h g rec =
        let p = ends_with s c a (g.1 h) in
        let f = resolved a.symbols in
        (map f p.0 ++ record { at = None; card = padded c } ∷ [], p.2 ∙ append_assoc (map f s.drafts) (map f p.0) (record { at = None; card = padded c } ∷ []))
    at false h g rec = fronts_card s c a g.0 (rec (g.2 h))

-- a card's line
pub shown : (cs : List (List ℕ)) (a : Assembled) → read_from fresh cs ≡ Ok a → (k : ℕ) (t : State) (c : List ℕ) (rest : List (List ℕ)) (d : Line) → Reads fresh cs k t c rest → is_end c ≡ false → get_or a.lines k d ≡ record { at = placed a.symbols (made_by t c); card = padded c }
shown cs a e k t c rest d r h =
    let p = from_card fresh cs k t c rest a e r in
    let g = goes_on t c rest a p.0 in
    let q = fronts (after_card t c) rest a (g.2 h) in
    let f = resolved a.symbols in
    let x : Draft = record { card = padded c; made = made_by t c } in
    let n : length (map f t.drafts) ≡ k = length-map t.drafts f ∙ p.1 ∙ omega arith in
    let w : a.lines ≡ map f t.drafts ++ (f x ∷ q.0) =
    q.1 ∙ ap (λ (l : List Draft). map f l ++ q.0) (adds t c g.0)
    ∙ ap (λ (l : List Line). l ++ q.0) (map-append f t.drafts (x ∷ []))
    ∙ append_assoc (map f t.drafts) (f x ∷ []) q.0
    in
    ap (λ (l : List Line). get_or l k d) w ∙ get_or_at (map f t.drafts) (f x) q.0 d k n

-- END's line and those that it adds
module _ (cs : List (List ℕ)) (a : Assembled) (e : read_from fresh cs ≡ Ok a) (k : ℕ) (t : State) (c : List ℕ) (rest : List (List ℕ)) (r : Reads fresh cs k t c rest) (h : is_end c ≡ true) where
  abbrev f : Draft → Line
  f = resolved a.symbols

  end_lines : (ds : List Draft) × AllAdded ds × (a.lines ≡ (map f t.drafts ++ map f ds) ++ record { at = None; card = padded c } ∷ [])
  end_lines = ends_with t c a ((goes_on t c rest a (from_card fresh cs k t c rest a e r).0).1 h)

  before_it : length (map f t.drafts) ≡ k
  before_it = length-map t.drafts f ∙ (from_card fresh cs k t c rest a e r).1 ∙ omega arith

  pub last_line : (d : Line) → get_or a.lines (length a.lines - 1) d ≡ record { at = None; card = padded c }
  last_line d =
      let p = map f t.drafts ++ map f end_lines.0 in
      let n : length p ≡ length a.lines - 1 = omega (arith, simp length-append at (ap length end_lines.2), length-append (map f t.drafts) (map f end_lines.0)) in
      ap (λ (l : List Line). get_or l (length a.lines - 1) d) end_lines.2 ∙ get_or_at p (record { at = None; card = padded c }) [] d (length a.lines - 1) n

  added_at : (ds : List Draft) → AllAdded ds → (i : ℕ) (d : Line) → i < length ds → (l : ℕ) × (get_or (map f ds) i d ≡ record { at = Some (l, zero_word); card = blank })
  added_at [] q i d l = absurd (omega arith)
  added_at (x ∷ xs) q zero d l = (q.0.location, ap f q.0.is)
  added_at (x ∷ xs) q (suc i) d l = added_at xs q.1 i d (omega arith)

  pub added_lines : (j : ℕ) (d : Line) → k ≤ j → j + 1 < length a.lines → (l : ℕ) × (get_or a.lines j d ≡ record { at = Some (l, zero_word); card = blank })
  added_lines j d g l =
      let ds = end_lines.0 in
      let m = simp length-append at (ap length end_lines.2) in
      let p = added_at ds end_lines.1 (j - k) d (omega (arith, m, length-map ds f, before_it)) in (
        p.0,
        ap (λ (xs : List Line). get_or xs j d) end_lines.2
            ∙ get_or_append_left (map f t.drafts ++ map f ds) (record { at = None; card = padded c } ∷ []) d j (omega (arith, m, length-append (map f t.drafts) (map f ds)))
            ∙ get_or-append_right (map f t.drafts) (map f ds) k j d before_it g
            ∙ p.1,
      )

pub words : (cs : List (List ℕ)) (a : Assembled) → read_from fresh cs ≡ Ok a → Words cs a
words cs a e =
    record {
      shown = shown cs a e;
      end = λ k t c rest d r h. last_line cs a e k t c rest r h d;
      added = λ k t c rest r h. added_lines cs a e k t c rest r h;
    }
