-- Lines of a table: the first that passes a test, tests at each line and at each two, and the order of the names.
use Rattle.std.proofs.Common.{◌≡◌, ℕ, zero, suc, ◌<◌, Bool, true, false, cond, not, ◌&&◌, ltb, ◌⊎◌, List, [], ◌∷◌, length, get_or, Some, None, sym, refl, ap, ◌∙◌, inl, inr, arith}
use Rattle.std.proofs.lemmas.Bool.{and_parts, both_ways, not-true, ltb-true}
use Rattle.std.specs.List.{find}
use Rattle.names.specs.Names.{Line}
use Rattle.names.specs.Order.{key_of, insert, sorted}
use Rattle.names.specs.Laws.{Stands}

-- what is found stands there, and passes
pub find_some : (test : Line → Bool) (ls : List Line) (l : Line) → find test ls ≡ Some l → Stands ls l × (test l ≡ true)
find_some test [] l e = let z : ◌≡◌ {A = ℕ} 0 1 = cc in absurd (omega arith)
find_some test (m ∷ ms) l e = at (test m) refl e (find_some test ms l)
  where
    at : (b : Bool) → test m ≡ b → cond b (Some m) (find test ms) ≡ Some l → (find test ms ≡ Some l → Stands ms l × (test l ≡ true)) → ((m ≡ l) ⊎ Stands ms l) × (test l ≡ true)
    at true f g rec = let h : m ≡ l = cc in (inl h, ap test (sym h) ∙ f)
    at false f g rec = let r = rec g in (inr r.0, r.1)

-- where none is found, none passes
pub find_none : (test : Line → Bool) (ls : List Line) → find test ls ≡ None → (l : Line) → Stands ls l → test l ≡ true → ⊥
find_none test [] e l s p = s
find_none test (m ∷ ms) e l s p = at (test m) refl e (find_none test ms) s
  where
    at : (b : Bool) → test m ≡ b → cond b (Some m) (find test ms) ≡ None → (find test ms ≡ None → (l : Line) → Stands ms l → test l ≡ true → ⊥) → (m ≡ l) ⊎ Stands ms l → ⊥
    at true f g rec s = let z : ◌≡◌ {A = ℕ} 0 1 = cc in omega arith
    at false f g rec (inl h) = both_ways (test m) f (ap test h ∙ p)
    at false f g rec (inr h) = rec g l h p

-- a test that each line passes
abbrev pub every : (Line → Bool) → List Line → Bool
every test [] = true
every test (m ∷ ms) = test m && every test ms

pub every_at : (test : Line → Bool) (ls : List Line) → every test ls ≡ true → (l : Line) → Stands ls l → test l ≡ true
every_at test [] t l s = absurd s
every_at test (m ∷ ms) t l (inl h) = ap test (sym h) ∙ (and_parts (test m) (every test ms) t).0
every_at test (m ∷ ms) t l (inr h) = every_at test ms (and_parts (test m) (every test ms) t).1 l h

-- no two lines clash
abbrev pub apart : (Line → Line → Bool) → List Line → Bool
apart clash [] = true
apart clash (m ∷ ms) = every (λ l. not (clash m l)) ms && apart clash ms

-- so lines that clash, either way round, are one
pub apart_at : (clash : Line → Line → Bool) (ls : List Line) → apart clash ls ≡ true → (l m : Line) → Stands ls l → Stands ls m → clash l m ≡ true → clash m l ≡ true → l ≡ m
apart_at clash [] t l m s r p q = absurd s
apart_at clash (n ∷ ns) t l m (inl e) (inl f) p q = sym e ∙ f
apart_at clash (n ∷ ns) t l m (inl e) (inr r) p q =
    absurd (both_ways (clash n m) (not-true (clash n m) (every_at (λ x. not (clash n x)) ns (and_parts (every (λ x. not (clash n x)) ns) (apart clash ns) t).0 m r)) (ap (λ (x : Line). clash x m) e ∙ p))
apart_at clash (n ∷ ns) t l m (inr s) (inl f) p q =
    absurd (both_ways (clash n l) (not-true (clash n l) (every_at (λ x. not (clash n x)) ns (and_parts (every (λ x. not (clash n x)) ns) (apart clash ns) t).0 l s)) (ap (λ (x : Line). clash x l) f ∙ q))
apart_at clash (n ∷ ns) t l m (inr s) (inr r) p q = apart_at clash ns (and_parts (every (λ x. not (clash n x)) ns) (apart clash ns) t).1 l m s r p q

-- a line stands at some place, and at each place stands a line
pub stands_at : (ls : List Line) (d l : Line) → Stands ls l → (k : ℕ) × (k < length ls) × (get_or ls k d ≡ l)
stands_at [] d l s = absurd s
stands_at (m ∷ ms) d l (inl h) = (0, omega arith, h)
stands_at (m ∷ ms) d l (inr h) = let r = stands_at ms d l h in (suc r.0, omega arith, r.2)

pub at_stands : (ls : List Line) (d : Line) (k : ℕ) → k < length ls → Stands ls (get_or ls k d)
at_stands [] d k h = absurd (omega arith)
at_stands (m ∷ ms) d zero h = inl refl
at_stands (m ∷ ms) d (suc k) h = inr (at_stands ms d k (omega arith))

-- a sort keeps the lines
insert_in : (l m : Line) (ms : List Line) → (l ≡ m) ⊎ Stands ms m → Stands (insert l ms) m
insert_in l m [] s = s
insert_in l m (n ∷ ns) s = at (ltb (key_of n.0) (key_of l.0)) s (insert_in l m ns)
  where
    at : (b : Bool) → (l ≡ m) ⊎ ((n ≡ m) ⊎ Stands ns m) → ((l ≡ m) ⊎ Stands ns m → Stands (insert l ns) m) → Stands (cond b (n ∷ insert l ns) (l ∷ n ∷ ns)) m
    at true (inl e) rec = inr (rec (inl e))
    at true (inr (inl e)) rec = inl e
    at true (inr (inr r)) rec = inr (rec (inr r))
    at false s rec = s

insert_out : (l m : Line) (ms : List Line) → Stands (insert l ms) m → (l ≡ m) ⊎ Stands ms m
insert_out l m [] s = s
insert_out l m (n ∷ ns) s = at (ltb (key_of n.0) (key_of l.0)) s (insert_out l m ns)
  where
    at : (b : Bool) → Stands (cond b (n ∷ insert l ns) (l ∷ n ∷ ns)) m → (Stands (insert l ns) m → (l ≡ m) ⊎ Stands ns m) → (l ≡ m) ⊎ ((n ≡ m) ⊎ Stands ns m)
    at true (inl e) rec = inr (inl e)
    at true (inr r) rec = over (rec r)
      where
        over : (l ≡ m) ⊎ Stands ns m → (l ≡ m) ⊎ ((n ≡ m) ⊎ Stands ns m)
        over (inl e) = inl e
        over (inr t) = inr (inr t)
    at false s rec = s

pub sorted_in : (ls : List Line) (m : Line) → Stands ls m → Stands (sorted ls) m
sorted_in [] m s = s
sorted_in (l ∷ ls) m (inl e) = insert_in l m (sorted ls) (inl e)
sorted_in (l ∷ ls) m (inr s) = insert_in l m (sorted ls) (inr (sorted_in ls m s))

pub sorted_out : (ls : List Line) (m : Line) → Stands (sorted ls) m → Stands ls m
sorted_out [] m s = s
sorted_out (l ∷ ls) m s = over (insert_out l m (sorted ls) s) (sorted_out ls m)
  where
    over : (l ≡ m) ⊎ Stands (sorted ls) m → (Stands (sorted ls) m → Stands ls m) → (l ≡ m) ⊎ Stands ls m
    over (inl e) rec = inl e
    over (inr t) rec = inr (rec t)

-- each name is above the one before, the first above a number
abbrev pub rising : ℕ → List Line → Bool
rising low [] = true
rising low (m ∷ ms) = ltb low (key_of m.0) && rising (key_of m.0) ms

rising_low : (low : ℕ) (ls : List Line) → rising low ls ≡ true → (d : Line) (k : ℕ) → k < length ls → low < key_of (get_or ls k d).0
rising_low low [] t d k h = absurd (omega arith)
rising_low low (m ∷ ms) t d zero h = ltb-true low (key_of m.0) (and_parts (ltb low (key_of m.0)) (rising (key_of m.0) ms) t).0
rising_low low (m ∷ ms) t d (suc k) h =
    let p = and_parts (ltb low (key_of m.0)) (rising (key_of m.0) ms) t in
    omega (arith, ltb-true low (key_of m.0) p.0, rising_low (key_of m.0) ms p.1 d k (omega arith))

pub rising_at : (low : ℕ) (ls : List Line) → rising low ls ≡ true → (d : Line) (i j : ℕ) → i < j → j < length ls → key_of (get_or ls i d).0 < key_of (get_or ls j d).0
rising_at low [] t d i j g h = absurd (omega arith)
rising_at low (m ∷ ms) t d i zero g h = absurd (omega arith)
rising_at low (m ∷ ms) t d zero (suc j) g h = rising_low (key_of m.0) ms (and_parts (ltb low (key_of m.0)) (rising (key_of m.0) ms) t).1 d j (omega arith)
rising_at low (m ∷ ms) t d (suc i) (suc j) g h = rising_at (key_of m.0) ms (and_parts (ltb low (key_of m.0)) (rising (key_of m.0) ms) t).1 d i j (omega arith) (omega arith)
