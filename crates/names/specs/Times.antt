-- The times of the operations, in units of the machine's clock.
use Rattle.std.specs.Prelude.{◌≡◌, ℕ, ◌+◌, ◌*◌, ◌<◌, ◌≤◌, cond, List, [], ◌∷◌, ◌++◌, replicate, ◌==◌, ◌≢◌, slice_index}

-- by code: NOP to MOVE one by one, then loads and stores, input and output and jumps and address transfers, comparisons
unfoldable pub times : List ℕ
times = (1 ∷ 2 ∷ 2 ∷ 10 ∷ 12 ∷ 10 ∷ 2 ∷ 1 ∷ []) ++ replicate 26 2 ++ replicate 22 1 ++ replicate 8 2

-- the time of the code k, without what MOVE takes for each word
abbrev pub base_time : ℕ → ℕ
base_time k = slice_index times k

-- the time of the code k with the F n: MOVE takes two more for each word that it moves
abbrev pub time_of : ℕ → ℕ → ℕ
time_of k n = base_time k + cond (k == 7) (2 * n) 0

pub record TimeLaws : Type 0 where
  pub move : (n : ℕ) → time_of 7 n ≡ 1 + 2 * n
  -- any other time is by the code alone
  pub by_code : (k m n : ℕ) → (k ≢ 7) → time_of k m ≡ time_of k n
  pub some : (k n : ℕ) → k < 64 → 1 ≤ time_of k n
  -- what is no code takes none
  pub none : (k n : ℕ) → 64 ≤ k → time_of k n ≡ 0
