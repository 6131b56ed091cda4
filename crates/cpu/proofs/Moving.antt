-- MOVE: programs that move words, and the loop that copies them.
use Rattle.std.proofs.Common.{◌≡◌, ℕ, zero, suc, ◌+◌, ◌<◌, ◌≤◌, Bool, true, false, not, ◌&&◌, eqb, leb, ltb, cond, ◌⊎◌, inl, inr, Some, None, [], ◌∷◌, ◌++◌, sym, refl, ap, subst, ◌∙◌, mod-eq_of_lt, arith}
use Rattle.std.proofs.lemmas.Bool.{cases_eq, cond-false, cond-true, eqb-true, not-false, le-ltb, lt-leb, lt-ltb}
use Rattle.std.proofs.lemmas.List.{append-nil}
use Rattle.arith.specs.Sums.{sum_sign, sum_size, sum_word}
use Rattle.word.specs.declared.index.Index.{Index}
use Rattle.word.specs.declared.sign.Sign.{Sign}
use Rattle.word.specs.declared.sign.Sign.TheVariants.{Plus, Minus}
use Rattle.word.specs.declared.word.Word.{Word}
use Rattle.word.specs.Word.{word_of}
use Rattle.word.proofs.Same.{word_of_sign, word_of_magnitude}
use Rattle.cpu.specs.declared.fault.Fault.TheVariants.{Outside}
use Rattle.cpu.specs.declared.register.Register.TheVariants.{I1}
use Rattle.cpu.specs.declared.registers.Registers.{Registers}
use Rattle.cpu.specs.declared.step.Next.TheVariants.{Goes}
use Rattle.cpu.specs.declared.step.Step.{Step}
use Rattle.cpu.specs.Executed.{Done, row}
use Rattle.cpu.specs.Parts.{copied}
use Rattle.cpu.specs.Instructions.{Order, along, at, counted, going, is_negative, located, location_of, move_words, moving, negative_if}
use Rattle.cpu.specs.Programs.{Memory, Program, outcome_of, memory_after, reads_of, writes_of, stored, takes_j}
use Rattle.cpu.specs.Programs.Outcome.{fails, goes}
use Rattle.cpu.specs.Programs.Program.{read, write, done}
use Rattle.cpu.proofs.Indices.{index_at}
use Rattle.cpu.specs.Registers.{changed, held, index_of, index_word, onward}

-- one word more
pub copied_more : (n l k : ℕ) (m : Memory) → copied (suc n) l k m ≡ stored (copied n l k m) (k + n) (copied n l k m (l + n))
copied_more zero l k m =
    let a : l + 0 ≡ l = omega arith in
    let b : k + 0 ≡ k = omega arith in
    rw (a, b) refl
copied_more (suc n) l k m =
    let a : l + suc n ≡ suc l + n = omega arith in
    let b : k + suc n ≡ suc k + n = omega arith in
    rw (a, b) (copied_more n (suc l) (suc k) (stored m k (m l)))

-- a location that is counted up to, below 4000 and not

counted_within : (l : ℕ) (p : Program) → l < 4000 → counted l p ≡ p
counted_within l p h = cond-true (ltb l 4000) p _ (lt-ltb l 4000 h)

counted_out : (l : ℕ) (p : Program) → 4000 ≤ l → counted l p ≡ done (fails (Outside (word_of Plus l)))
counted_out l p h = cond-false (ltb l 4000) p _ (le-ltb l 4000 h)

-- one word is moved
moving_step : (n l k : ℕ) (p : Program) → l < 4000 → k < 4000 → moving (suc n) l k p ≡ read l (λ w. write k w (moving n (suc l) (suc k) p))
moving_step n l k p g h = counted_within l _ g ∙ (λ i. read l (λ w. counted_within k (write k w (moving n (suc l) (suc k) p)) h i))

-- words are moved, and all that is moved lies in memory
pub record Moves (n l k : ℕ) (p : Program) (j : Word) (m : Memory) : Type 0 where
  pub outcome : outcome_of (moving n l k p) m ≡ outcome_of p (copied n l k m)
  pub memory : memory_after (moving n l k p) j m ≡ memory_after p j (copied n l k m)
  pub reads : reads_of (moving n l k p) m ≡ row l n ++ reads_of p (copied n l k m)
  pub writes : writes_of (moving n l k p) m ≡ row k n ++ writes_of p (copied n l k m)
  pub takes : takes_j (moving n l k p) m ≡ takes_j p (copied n l k m)

pub moves : (n l k : ℕ) (p : Program) (j : Word) (m : Memory) → l + n ≤ 4000 → k + n ≤ 4000 → Moves n l k p j m
moves zero l k p j m g h = record { outcome = refl; memory = refl; reads = refl; writes = refl; takes = refl }
moves (suc n) l k p j m g h =
    let e = moving_step n l k p (omega arith) (omega arith) in
    let r = moves n (suc l) (suc k) p j (stored m k (m l)) (omega arith) (omega arith) in
    record {
      outcome = ap (λ q. outcome_of q m) e ∙ r.outcome;
      memory = ap (λ q. memory_after q j m) e ∙ r.memory;
      reads = ap (λ q. reads_of q m) e ∙ ap (λ ls. l ∷ ls) r.reads;
      writes = ap (λ q. writes_of q m) e ∙ ap (λ ls. k ∷ ls) r.writes;
      takes = ap (λ q. takes_j q m) e ∙ r.takes;
    }

-- the first location outside is 4000
pub moves_out : (n l k : ℕ) (p : Program) (m : Memory) → l ≤ 4000 → k ≤ 4000 → (4000 < l + n) ⊎ (4000 < k + n) → outcome_of (moving n l k p) m ≡ fails (Outside (word_of Plus 4000))
moves_out zero l k p m g h out = elim out [ inl a ↦ absurd (omega arith) | inr b ↦ absurd (omega arith) ]
moves_out (suc n) l k p m g h out = elim (cases_eq l 4000) [
  | inl e ↦ ap (λ q. outcome_of q m) (counted_out l _ (omega arith)) ∙ ap (λ x. fails (Outside (word_of Plus x))) e
  | inr a ↦ elim (cases_eq k 4000) [
    | inl f ↦
        ap (λ q. outcome_of q m) (counted_within l _ (omega arith))
        ∙ ap (λ q. outcome_of q m) (counted_out k _ (omega arith))
        ∙ ap (λ x. fails (Outside (word_of Plus x))) f
    | inr b ↦
        ap (λ q. outcome_of q m) (moving_step n l k p (omega arith) (omega arith))
        ∙ moves_out n (suc l) (suc k) p (stored m k (m l)) (omega arith) (omega arith) (elim out [ inl x ↦ inl (omega arith) | inr y ↦ inr (omega arith) ])
  ]
]

-- a number that is a location

some_if : (b : Bool) (x l : ℕ) → cond b (Some x) None ≡ Some l → x ≡ l
some_if true x l e = cc
some_if false x l e = absurd cc

located_at : (w : Word) (l : ℕ) → location_of w ≡ Some l → w.magnitude ≡ l
located_at w l e = some_if _ w.magnitude l e

plain_if : (b c : Bool) (x l : ℕ) → cond (b && not c) (Some x) None ≡ Some l → c ≡ false
plain_if true true x l e = absurd cc
plain_if true false x l e = refl
plain_if false c x l e = absurd cc

at_found : (w : Word) (f : ℕ → Program) (l : ℕ) → location_of w ≡ Some l → at w f ≡ f l
at_found w f l e = ap (λ x. located w f x) e

-- -0 is the one location with a minus
zero_if_minus : (w : Word) (l : ℕ) → w.sign ≡ Minus → location_of w ≡ Some l → l ≡ 0
zero_if_minus w l s e =
    let plain : is_negative w ≡ false = plain_if (ltb w.magnitude 4000) (is_negative w) w.magnitude l e in
    let here : not (eqb w.magnitude 0) ≡ false = sym (ap (λ t. negative_if t w.magnitude) s) ∙ plain in
    sym (located_at w l e) ∙ eqb-true w.magnitude 0 (not-false _ here)

-- MOVE of a word and more, as it goes on
go_on : Order → ℕ → Program
go_on o n = going o (changed o.registers I1 (sum_word (held o.registers I1) (word_of Plus n)))

move_found : (o : Order) (n l k : ℕ) → 0 < n → location_of o.m ≡ Some l → location_of (held o.registers I1) ≡ Some k → move_words o n ≡ moving n l k (go_on o n)
unfolding go_on
move_found o zero l k p e f = absurd (omega arith)
move_found o (suc n) l k p e f = at_found o.m _ l e ∙ at_found (held o.registers I1) _ k f

-- where a location is outside
pub move_out : (o : Order) (n l k : ℕ) (m : Memory) → 0 < n → location_of o.m ≡ Some l → location_of (held o.registers I1) ≡ Some k → l < 4000 → k < 4000 → (4000 < l + n) ⊎ (4000 < k + n) → outcome_of (move_words o n) m ≡ fails (Outside (word_of Plus 4000))
move_out o n l k m p e f g h out = ap (λ q. outcome_of q m) (move_found o n l k p e f) ∙ moves_out n l k (go_on o n) m (omega arith) (omega arith) out

-- I1 and the number of words
sum_plus : (s : Sign) (k n : ℕ) → (s ≡ Minus → k ≡ 0) → 0 < n → (sum_sign s k Plus n ≡ Plus) × (sum_size s k Plus n ≡ k + n)
sum_plus Plus k n z p = (refl, refl)
sum_plus Minus k n z p =
    let e = z refl in
    (cond-false (leb n k) Minus Plus (lt-leb n k (omega arith)), omega arith)

next_i1 : (i x : Index) (k n : ℕ) → location_of (index_word i) ≡ Some k → 0 < n → k + n ≤ 4000 → x.sign ≡ Plus → x.magnitude ≡ k + n → index_of (sum_word (index_word i) (word_of Plus n)) ≡ x
next_i1 i x k n e p h s g =
    let w = index_word i in
    let v = word_of Plus n in
    let small = i.small in
    let sign : w.sign ≡ i.sign = word_of_sign i.sign i.magnitude in
    let size : w.magnitude ≡ k = located_at w k e in
    let plus : v.sign ≡ Plus = word_of_sign Plus n in
    let count : v.magnitude ≡ n = word_of_magnitude Plus n ∙ mod-eq_of_lt (omega arith) in
    let zero_k : w.sign ≡ Minus → k ≡ 0 = λ t. zero_if_minus w k t e in
    let sum = sum_plus w.sign k n zero_k p in
    let top : sum_word w v ≡ word_of Plus (k + n) = rw (plus, count, size, sum.0, sum.1) refl in
    sym (index_at _ x (s ∙ sym (ap (λ (u : Word). u.sign) top ∙ word_of_sign Plus (k + n))) (g ∙ sym (ap (λ (u : Word). u.magnitude) top ∙ word_of_magnitude Plus (k + n) ∙ mod-eq_of_lt (omega arith))))

-- where all locations are in memory
move_base : (o : Order) (n l k : ℕ) (i : Index) (j : Word) (m : Memory) → 0 < n → location_of o.m ≡ Some l → location_of (held o.registers I1) ≡ Some k
    → l + n ≤ 4000 → k + n ≤ 4000 → i.sign ≡ Plus → i.magnitude ≡ k + n
    → Done (move_words o n) [] j o.registers m (onward (record o.registers { i1 = i })) (copied n l k m) (record { time = o.time; reads = record { start = l; count = n }; writes = record { start = k; count = n }; takes_j = false; next = Goes None })
unfolding go_on
move_base o n l k i j m p e f g h a b =
    let t = move_found o n l k p e f in
    let q = moves n l k (go_on o n) j m g h in
    let x = next_i1 o.registers.i1 i k n f p h a b in
    record {
      outcome = ap (λ u. outcome_of u m) t ∙ q.outcome ∙ ap (λ y. goes o.time (along (record o.registers { i1 = y }))) x;
      memory = ap (λ u. memory_after u j m) t ∙ q.memory;
      reads = ap (λ u. reads_of u m) t ∙ q.reads ∙ append-nil (row l n);
      writes = ap (λ u. writes_of u m) t ∙ q.writes ∙ append-nil (row k n);
      takes = ap (λ u. takes_j u m) t ∙ q.takes;
      stays = tt;
    }

pub move_done : (o : Order) (n c l k : ℕ) (r : Registers) (i : Index) (s : Step) (j : Word) (m m′ : Memory) → c ≡ n → 0 < n → location_of o.m ≡ Some l → location_of (held o.registers I1) ≡ Some k
    → l + c ≤ 4000 → k + c ≤ 4000 → i.sign ≡ Plus → i.magnitude ≡ k + c → r ≡ o.registers → m′ ≡ copied c l k m
    → s ≡ record { time = o.time; reads = record { start = l; count = c }; writes = record { start = k; count = c }; takes_j = false; next = Goes None }
    → Done (move_words o n) [] j o.registers m (record r { i1 = i; location = r.location + 1 }) m′ s
move_done o n c l k r i s j m m′ q p e f g h a b t u v =
    let base = move_base o n l k i j m p e f (omega arith) (omega arith) a (omega arith) in
    let Q : Registers → Memory → Step → Type 0 = λ x y z. Done (move_words o n) [] j o.registers m x y z in
    let A : ℕ → Type 0 = λ d. Q (onward (record o.registers { i1 = i })) (copied d l k m) (record { time = o.time; reads = record { start = l; count = d }; writes = record { start = k; count = d }; takes_j = false; next = Goes None }) in
    let one : r.location + 1 ≡ suc r.location = omega arith in
    let B : Step → Type 0 = λ z. Q (onward (record o.registers { i1 = i })) (copied c l k m) z in
    let C : Memory → Type 0 = λ y. Q (onward (record o.registers { i1 = i })) y s in
    let D : Registers → Type 0 = λ x. Q (onward (record x { i1 = i })) m′ s in
    let E : ℕ → Type 0 = λ d. Q (record r { i1 = i; location = d }) m′ s in
    subst E (sym one) (subst D (sym t) (subst C (sym u) (subst B (sym v) (subst A (sym q) base))))
