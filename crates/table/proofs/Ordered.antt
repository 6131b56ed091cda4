-- What a total order gives of lists of pairs in order.
use Rattle.std.proofs.Common.{◌≡◌, ℕ, zero, suc, ◌+◌, ◌<◌, ◌≤◌, Bool, true, false, cond, List, [], ◌∷◌, length, get_or, set, is_some, Some, None, Result, Ok, Err, IfOk, IfErr, refl, arith}
use Rattle.std.specs.List.{insert}
use Rattle.std.specs.List.Sorted.{IsSearchInRange, IsBinarySearchResult, IsSortedBy}
use Rattle.std.specs.Ordering.{is_gt}
use Rattle.std.specs.declared.cmp.Ordering.TheVariants.{Less, Equal, Greater}
use Rattle.std.specs.declared.cmp.Ordering.{Ordering}
use Rattle.std.proofs.lemmas.Cmp.{tied_itself, alike_right}
use Rattle.std.proofs.lemmas.List.{length-set}
use Rattle.std.proofs.lemmas.List.Edits.{length-insert}
use Rattle.std.proofs.lemmas.List.Sorted.{searchable_from_sorted}
use Rattle.table.specs.Order.{Order, before_by}
use Rattle.table.specs.Pairs.{lookup, put, sorted, all_after, Rising, Inserts, Holds, Lacks}

module _ {K V : Type 0} {cmp : K → K → Ordering} {same : K → K → Bool} (o : Order cmp same) where
  -- what comes after j comes after k, if k is not after j
  after_on : (k j : K) (xs : List (K × V)) → is_gt (cmp k j) ≡ false → all_after (before_by cmp) j xs ≡ true → all_after (before_by cmp) k xs ≡ true
  after_on k j [] h a = refl
  after_on k j (x ∷ xs) h a = grind (arith, after_on k j xs h, o.total.trans k j x.0, o.total.congr k j x.0)

  -- of a list that all comes after k each key does
  after_at : (xs : List (K × V)) (i : ℕ) (d : K × V) (k : K) → i < length xs → all_after (before_by cmp) k xs ≡ true → before_by cmp k (get_or xs i d).0 ≡ true
  after_at [] i d k l a = absurd (omega arith)
  after_at (x ∷ xs) zero d k l a = grind arith
  after_at (x ∷ xs) (suc i) d k l a = grind (arith, after_at xs i d k)

  pub rising : (xs : List (K × V)) → sorted (before_by cmp) xs ≡ true → Rising (before_by cmp) xs
  rising [] s i j d h l = absurd (omega arith)
  rising (x ∷ xs) s i zero d h l = absurd (omega arith)
  rising (x ∷ xs) s zero (suc j) d h l = grind (arith, after_at xs j d x.0)
  rising (x ∷ xs) s (suc i) (suc j) d h l = rising xs (grind arith) i j d (omega arith) (omega arith)

  -- a pair that is put keeps what comes after j, and the order
  put_after : (xs : List (K × V)) (j k : K) (v : V) → before_by cmp j k ≡ true → all_after (before_by cmp) j xs ≡ true → all_after (before_by cmp) j (put (before_by cmp) same xs k v) ≡ true
  put_after [] j k v h a = grind arith
  put_after (x ∷ xs) j k v h a = grind (arith, put_after xs j k v h)

  pub put_sorted : (xs : List (K × V)) (k : K) (v : V) → sorted (before_by cmp) xs ≡ true → sorted (before_by cmp) (put (before_by cmp) same xs k v) ≡ true
  put_sorted [] k v s = refl
  put_sorted (x ∷ xs) k v s = grind (arith, put_sorted xs k v, put_after xs x.0 k v, after_on k x.0 xs, o.ties x.0 k, o.total.antisymm k x.0)

  -- what a look-up finds after a put
  pub lookup_put : (xs : List (K × V)) (k : K) (v : V) → lookup same (put (before_by cmp) same xs k v) k ≡ Some v
  lookup_put [] k v = grind (arith, o.ties k k, tied_itself o.total k)
  lookup_put (x ∷ xs) k v = grind (arith, o.ties k k, tied_itself o.total k, o.ties x.0 k, lookup_put xs k v)

  pub lookup_other : (xs : List (K × V)) (k q : K) (v : V) → same k q ≡ false → lookup same (put (before_by cmp) same xs k v) q ≡ lookup same xs q
  lookup_other [] k q v n = grind arith
  lookup_other (x ∷ xs) k q v n = grind (arith, lookup_other xs k q v n, o.ties k q, o.ties x.0 k, o.ties x.0 q, o.total.congr x.0 k q)

  -- the keys before place i come before k
  abbrev Below : List (K × V) → K → ℕ → Type 0
  Below xs k i = (j : ℕ) (d : K × V) → j < i → cmp (get_or xs j d).0 k ≡ Less

  -- the keys from place i on come after k
  abbrev Above : List (K × V) → K → ℕ → Type 0
  Above xs k i = (j : ℕ) (d : K × V) → i ≤ j → j < length xs → cmp (get_or xs j d).0 k ≡ Greater

  below_tail : (x : K × V) (xs : List (K × V)) (k : K) (i : ℕ) → Below (x ∷ xs) k (suc i) → Below xs k i
  below_tail x xs k i b j d l = b (suc j) d (omega arith)

  -- a key that stands at i
  put_at : (xs : List (K × V)) (i : ℕ) (k : K) (v : V) → i < length xs → Below xs k i → ((d : K × V) → cmp (get_or xs i d).0 k ≡ Equal) → put (before_by cmp) same xs k v ≡ set xs i (k, v)
  put_at [] i k v l b e = absurd (omega arith)
  put_at (x ∷ xs) zero k v l b e = grind (arith, e x, o.ties x.0 k)
  put_at (x ∷ xs) (suc i) k v l b e = grind (arith, b 0 x, put_at xs i k v (omega arith) (below_tail x xs k i b) e)

  lookup_at : (xs : List (K × V)) (i : ℕ) (k : K) → i < length xs → Below xs k i → ((d : K × V) → cmp (get_or xs i d).0 k ≡ Equal) → (is_some (lookup same xs k) ≡ true) × ((d : K × V) → lookup same xs k ≡ Some (get_or xs i d).1)
  lookup_at [] i k l b e = absurd (omega arith)
  lookup_at (x ∷ xs) zero k l b e = (grind (arith, e x, o.ties x.0 k), λ d. grind (arith, e x, o.ties x.0 k))
  lookup_at (x ∷ xs) (suc i) k l b e =
      let found = lookup_at xs i k (omega arith) (below_tail x xs k i b) e in
      (grind (arith, b 0 x, o.ties x.0 k, found.0), λ d. grind (arith, b 0 x, o.ties x.0 k, found.1 d))

  -- a key whose place would be i
  put_gap : (xs : List (K × V)) (i : ℕ) (k : K) (v : V) → i ≤ length xs → Below xs k i → Above xs k i → put (before_by cmp) same xs k v ≡ insert xs i (k, v)
  put_gap [] zero k v l b a = refl
  put_gap [] (suc i) k v l b a = absurd (omega arith)
  put_gap (x ∷ xs) zero k v l b a = grind (arith, a 0 x, o.ties x.0 k)
  put_gap (x ∷ xs) (suc i) k v l b a = grind (arith, b 0 x, put_gap xs i k v (omega arith) (below_tail x xs k i b) (λ j d h m. a (suc j) d (omega arith) (omega arith)))

  -- a key that no pair has is not found
  lookup_none : (xs : List (K × V)) (k : K) → ((j : ℕ) (d : K × V) → j < length xs → same (get_or xs j d).0 k ≡ false) → lookup same xs k ≡ None
  lookup_none [] k n = refl
  lookup_none (x ∷ xs) k n = grind (arith, n 0 x, lookup_none xs k (λ j d l. n (suc j) d (omega arith)))

  inserts : (xs : List (K × V)) (k : K) (v : V) → sorted (before_by cmp) xs ≡ true → (ys : List (K × V)) → put (before_by cmp) same xs k v ≡ ys → length ys ≡ length xs + cond (is_some (lookup same xs k)) 0 1 → Inserts (before_by cmp) same xs k v ys
  inserts xs k v s ys e n =
      let up : sorted (before_by cmp) ys ≡ true = grind (arith, put_sorted xs k v s) in
      record {
        whole = grind arith;
        there = grind (arith, lookup_put xs k v);
        elsewhere = λ q h. grind (arith, lookup_other xs k q v h);
        ordered = up;
        rising = rising ys up;
        grows = n;
      }

  module _ (xs : List (K × V)) (s : sorted (before_by cmp) xs ≡ true) (k : K) where
    holds : (i : ℕ) → i < length xs → ((d : K × V) → cmp (get_or xs i d).0 k ≡ Equal) → Holds (before_by cmp) same xs k i
    holds i l e =
        let below : Below xs k i = λ j d h. grind (arith, e d, rising xs s j i d, alike_right o.total (get_or xs i d).0 k (get_or xs j d).0) in
        let value = lookup_at xs i k l below e in
        record {
          within = l;
          found = λ d. grind (arith, e d, o.ties (get_or xs i d).0 k);
          there = value.0;
          reads = value.1;
          stored = λ v. inserts xs k v s _ (put_at xs i k v l below e) (grind (arith, value.0, length-set xs i (k, v)));
        }

    lacks : (i : ℕ) → i ≤ length xs → Below xs k i → Above xs k i → Lacks (before_by cmp) same xs k i
    lacks i l b a =
        let apart : (j : ℕ) (d : K × V) → j < length xs → same (get_or xs j d).0 k ≡ false = λ j d h. grind (arith, b j d, a j d, o.ties (get_or xs j d).0 k) in
        let absent = lookup_none xs k apart in
        record {
          within = l;
          apart = apart;
          absent = absent;
          stored = λ v. inserts xs k v s _ (put_gap xs i k v l b a) (grind (arith, length-insert xs i (k, v) l));
        }

    in_order : IsSortedBy (λ a b. before_by cmp a.0 b.0) xs
    in_order j d low high = grind (arith, rising xs s j (j + 1) d, o.total.antisymm (get_or xs j d).0 (get_or xs (j + 1) d).0)

    -- what a binary search finds
    pub searched : (r : Result ℕ ℕ) → IsSearchInRange r (length xs) → IsBinarySearchResult (λ p. cmp p.0 k) xs r → record { found : IfOk r (Holds (before_by cmp) same xs k); absent : IfErr r (Lacks (before_by cmp) same xs k) }
    searched (Ok i) l e = record { found = holds i l e; absent = tt }
    searched (Err i) l parted =
        let parts = parted (searchable_from_sorted o.total (λ p. p.0) xs k in_order) in
        record { found = tt; absent = lacks i l (λ j d h. parts.0 j d (omega arith) h) parts.1 }

module _ {K V : Type 0} {before same : K → K → Bool} {xs : List (K × V)} {k : K} {i : ℕ} (v : V) where
  pub stored_at : Holds before same xs k i → Inserts before same xs k v (set xs i (k, v))
  stored_at h = h.stored v

  pub stored_in : Lacks before same xs k i → Inserts before same xs k v (insert xs i (k, v))
  stored_in h = h.stored v
