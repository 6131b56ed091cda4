-- Lists of pairs of a key and a value: look-up, insertion, and what it is for the keys to stand in order.
use Rattle.std.specs.Prelude.{◌≡◌, ℕ, ◌+◌, ◌<◌, ◌≤◌, Bool, true, false, cond, ◌&&◌, List, [], ◌∷◌, length, is_some, Some, None, Option, slice_index_or, slice_set}
use Rattle.std.specs.List.{insert}

-- the value at a key
abbrev pub lookup : {K V : Type 0} → (K → K → Bool) → List (K × V) → K → Option V
lookup same [] k = None
lookup same (p ∷ ps) k = cond (same p.0 k) (Some p.1) (lookup same ps k)

-- the pair put in its place, or in place of the pair at the same key
abbrev pub put : {K V : Type 0} → (K → K → Bool) → (K → K → Bool) → List (K × V) → K → V → List (K × V)
put before same [] k v = (k, v) ∷ []
put before same (p ∷ ps) k v = cond (before p.0 k) (p ∷ put before same ps k v) (cond (same p.0 k) ((k, v) ∷ ps) ((k, v) ∷ p ∷ ps))

-- every key of the list comes after k
abbrev pub all_after : {K V : Type 0} → (K → K → Bool) → K → List (K × V) → Bool
all_after before k [] = true
all_after before k (p ∷ ps) = before k p.0 && all_after before k ps

-- the keys stand in order, as a test
abbrev pub sorted : {K V : Type 0} → (K → K → Bool) → List (K × V) → Bool
sorted before [] = true
sorted before (p ∷ ps) = all_after before p.0 ps && sorted before ps

-- each key comes before all that stand behind it
abbrev pub Rising : {K V : Type 0} → (K → K → Bool) → List (K × V) → Type 0
Rising {K} {V} before xs = (i j : ℕ) (d : K × V) → i < j → j < length xs → before (slice_index_or xs i d).0 (slice_index_or xs j d).0 ≡ true

-- what an insertion does to a list in order, xs being the list before it and ys the list after it
pub record Inserts {K V : Type 0} (before same : K → K → Bool) (xs : List (K × V)) (k : K) (v : V) (ys : List (K × V)) : Type 0 where
  -- the whole list
  pub whole : ys ≡ put before same xs k v
  -- the key has the value
  pub there : lookup same ys k ≡ Some v
  -- every other key has what it had
  pub elsewhere : (q : K) → same k q ≡ false → lookup same ys q ≡ lookup same xs q
  -- the keys stand in order
  pub ordered : sorted before ys ≡ true
  pub rising : Rising before ys
  -- there is one pair more where the key was new
  pub grows : length ys ≡ length xs + cond (is_some (lookup same xs k)) 0 1

-- the pair at a key stands at i
pub record Holds {K V : Type 0} (before same : K → K → Bool) (xs : List (K × V)) (k : K) (i : ℕ) : Type 0 where
  pub within : i < length xs
  pub found : (d : K × V) → same (slice_index_or xs i d).0 k ≡ true
  pub there : is_some (lookup same xs k) ≡ true
  pub reads : (d : K × V) → lookup same xs k ≡ Some (slice_index_or xs i d).1
  pub stored : (v : V) → Inserts before same xs k v (slice_set xs i (k, v))

-- no pair is at a key, whose place would be i
pub record Lacks {K V : Type 0} (before same : K → K → Bool) (xs : List (K × V)) (k : K) (i : ℕ) : Type 0 where
  pub within : i ≤ length xs
  pub apart : (j : ℕ) (d : K × V) → j < length xs → same (slice_index_or xs j d).0 k ≡ false
  pub absent : lookup same xs k ≡ None
  pub stored : (v : V) → Inserts before same xs k v (insert xs i (k, v))

-- the place of a key, or that no place has it
abbrev pub Finds : {K V : Type 0} → (K → K → Bool) → List (K × V) → K → Option ℕ → Type 0
Finds {K} {V} same xs k None = (lookup same xs k ≡ None) × ((j : ℕ) (d : K × V) → j < length xs → same (slice_index_or xs j d).0 k ≡ false)
Finds {K} {V} same xs k (Some i) = (d : K × V) → (same (slice_index_or xs i d).0 k ≡ true) × (lookup same xs k ≡ Some (slice_index_or xs i d).1)
