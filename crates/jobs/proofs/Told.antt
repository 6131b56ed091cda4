-- The end of a line of numbers.
use Rattle.std.proofs.Common.{◌≡◌, ℕ, List, [], ◌∷◌, ◌++◌, ap, ◌∙◌}
use Rattle.std.proofs.lemmas.List.{append-nil, append_assoc}

told_one : (x : List ℕ) → (x ++ []) ++ (10 ∷ []) ≡ x ++ (10 ∷ [])
told_one x = ap (λ (y : List ℕ). y ++ (10 ∷ [])) (append-nil x)

-- two numbers
pub told_two : (x y : List ℕ) → (x ++ (32 ∷ (y ++ []))) ++ (10 ∷ []) ≡ x ++ (32 ∷ (y ++ (10 ∷ [])))
told_two x y = append_assoc x (32 ∷ (y ++ [])) (10 ∷ []) ∙ ap (λ (z : List ℕ). x ++ (32 ∷ z)) (told_one y)

-- three
pub told_three : (x y z : List ℕ) → (x ++ (32 ∷ (y ++ (32 ∷ (z ++ []))))) ++ (10 ∷ []) ≡ x ++ (32 ∷ (y ++ (32 ∷ (z ++ (10 ∷ [])))))
told_three x y z = append_assoc x (32 ∷ (y ++ (32 ∷ (z ++ [])))) (10 ∷ []) ∙ ap (λ (w : List ℕ). x ++ (32 ∷ w)) (told_two y z)

-- and four
pub told_four : (x y z w : List ℕ) → (x ++ (32 ∷ (y ++ (32 ∷ (z ++ (32 ∷ (w ++ []))))))) ++ (10 ∷ []) ≡ x ++ (32 ∷ (y ++ (32 ∷ (z ++ (32 ∷ (w ++ (10 ∷ [])))))))
told_four x y z w = append_assoc x (32 ∷ (y ++ (32 ∷ (z ++ (32 ∷ (w ++ [])))))) (10 ∷ []) ∙ ap (λ (v : List ℕ). x ++ (32 ∷ v)) (told_three y z w)
