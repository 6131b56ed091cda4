-- What is made of the numbers from 0 on, one after the other.
use Rattle.std.proofs.Common.{◌≡◌, ℕ, zero, suc, ◌+◌, List, [], ◌∷◌, ◌++◌, sym, ap, ◌∙◌, arith}
use Rattle.std.proofs.lemmas.List.{append_assoc, append-nil}
use Rattle.std.proofs.lemmas.List.Concat.{flat_map-append}
use Rattle.std.specs.List.{flat_map}
use Rattle.cpu.specs.Executed.{row}

row_more : (a n : ℕ) → row a (suc n) ≡ row a n ++ ((a + n) ∷ [])
row_more a zero = ap (λ (k : ℕ). k ∷ []) (omega arith)
row_more a (suc n) =
    let e : suc a + n ≡ a + suc n = omega arith in
    ap (λ (l : List ℕ). a ∷ l) (row_more (suc a) n) ∙ ap (λ (k : ℕ). a ∷ (row (suc a) n ++ (k ∷ []))) e

-- one more
rows_more : (f : ℕ → List ℕ) (n : ℕ) → flat_map f (row 0 (n + 1)) ≡ flat_map f (row 0 n) ++ f n
rows_more f n =
    let e : n + 1 ≡ suc n = omega arith in
    let z : 0 + n ≡ n = omega arith in
    ap (λ (k : ℕ). flat_map f (row 0 k)) e
    ∙ ap (flat_map f) (row_more 0 n)
    ∙ flat_map-append f (row 0 n) ((0 + n) ∷ [])
    ∙ ap (λ (k : ℕ). flat_map f (row 0 n) ++ (f k ++ [])) z
    ∙ ap (λ (l : List ℕ). flat_map f (row 0 n) ++ l) (append-nil (f n))

pub rows_step : (f : ℕ → List ℕ) (n : ℕ) (first old new : List ℕ) → old ≡ first ++ flat_map f (row 0 n) → new ≡ old ++ f n → new ≡ first ++ flat_map f (row 0 (n + 1))
rows_step f n first old new e g =
    g
    ∙ ap (λ (l : List ℕ). l ++ f n) e
    ∙ append_assoc first (flat_map f (row 0 n)) (f n)
    ∙ sym (ap (λ (l : List ℕ). first ++ l) (rows_more f n))
