-- Areas and blocks as lists.
use Rattle.std.proofs.Common.{◌≡◌, ℕ, zero, suc, ◌≤◌, min, List, [], ◌∷◌, ◌++◌, length, take, drop, replicate, refl, ap, arith}
use Rattle.word.specs.declared.word.Word.{Word}
use Rattle.rack.specs.Transfers.{filled}

-- an area with a block's front over its own
pub filled_front : (xs ws : List Word) (n : ℕ) → n ≡ min (length xs) (length ws) → take n ws ++ drop n xs ≡ filled xs ws
filled_front [] ws zero e = refl
filled_front [] ws (suc n) e = absurd (omega arith)
filled_front (x ∷ xs) [] zero e = refl
filled_front (x ∷ xs) [] (suc n) e = absurd (omega arith)
filled_front (x ∷ xs) (w ∷ ws) zero e = absurd (omega arith)
filled_front (x ∷ xs) (w ∷ ws) (suc n) e = ap (λ (r : List Word). w ∷ r) (filled_front xs ws n (omega arith))

-- copies with the front of an area over their own
pub front_over : (ws : List Word) (z : Word) (k m n : ℕ) → k ≤ m → n ≡ min (length ws) k → take n ws ++ drop n (replicate k z) ≡ take k (ws ++ replicate m z)
front_over ws z zero m zero l e = refl
front_over ws z zero m (suc n) l e = absurd (omega arith)
front_over [] z (suc k) zero zero l e = absurd (omega arith)
front_over [] z (suc k) (suc m) zero l e = ap (λ (r : List Word). z ∷ r) (front_over [] z k m zero (omega arith) (omega arith))
front_over [] z (suc k) m (suc n) l e = absurd (omega arith)
front_over (w ∷ ws) z (suc k) m zero l e = absurd (omega arith)
front_over (w ∷ ws) z (suc k) m (suc n) l e = ap (λ (r : List Word). w ∷ r) (front_over ws z k m n (omega arith) (omega arith))
