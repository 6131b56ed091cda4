-- A text and its lines.
use Rattle.std.proofs.Common.{◌≡◌, ℕ, suc, ◌+◌, ◌<◌, min, Bool, true, false, cond, eqb, List, [], ◌∷◌, length, take, drop, refl, sym, ap, ◌∙◌, subst, arith}
use Rattle.std.specs.List.{flat_map}
use Rattle.card.specs.Lines.{grown, up_to}
use Rattle.room_jobs.specs.Differences.{lines_of}

-- the first line is the first k bytes, and what follows them has the other lines
abbrev Cut : List (List ℕ) → List ℕ → ℕ → Type 0
Cut ls bs k = ls ≡ take k bs ∷ lines_of (drop k bs)

pub cut : (bs : List ℕ) (k : ℕ) → 0 < length bs → k ≡ min (length bs) (up_to 10 bs + 1) → lines_of bs ≡ take k bs ∷ lines_of (drop k bs)
cut [] k h e = absurd (omega arith)
cut (b ∷ bs) k h e = at (eqb b 10) e (more bs (λ j. cut bs j))
  where
    more : (cs : List ℕ) → ((j : ℕ) → 0 < length cs → j ≡ min (length cs) (up_to 10 cs + 1) → Cut (lines_of cs) cs j) → (n : ℕ) → n ≡ min (suc (length cs)) (suc (up_to 10 cs) + 1) → Cut (grown b (lines_of cs)) (b ∷ cs) n
    more [] f n g = let m : n ≡ 1 = omega arith in subst (Cut ((b ∷ []) ∷ []) (b ∷ [])) (sym m) refl
    more (c ∷ cs) f n g =
        let j = min (suc (length cs)) (up_to 10 (c ∷ cs) + 1) in
        let m : n ≡ suc j = omega arith in
        subst (Cut (grown b (lines_of (c ∷ cs))) (b ∷ (c ∷ cs))) (sym m) (ap (grown b) (f j (omega arith) refl))

    at : (t : Bool) → k ≡ min (suc (length bs)) (cond t 0 (suc (up_to 10 bs)) + 1) → ((n : ℕ) → n ≡ min (suc (length bs)) (suc (up_to 10 bs) + 1) → Cut (grown b (lines_of bs)) (b ∷ bs) n) → Cut (cond t ((b ∷ []) ∷ lines_of bs) (grown b (lines_of bs))) (b ∷ bs) k
    at true g f = let m : k ≡ 1 = omega arith in subst (Cut ((b ∷ []) ∷ lines_of bs) (b ∷ bs)) (sym m) refl
    at false g f = f k g

-- the lines are the text
joined_grown : (b : ℕ) (ls : List (List ℕ)) → flat_map (λ l. l) (grown b ls) ≡ b ∷ flat_map (λ l. l) ls
joined_grown b [] = refl
joined_grown b (l ∷ ls) = refl

joined : (bs : List ℕ) → flat_map (λ l. l) (lines_of bs) ≡ bs
joined [] = refl
joined (b ∷ bs) = at (eqb b 10) (joined bs)
  where
    at : (t : Bool) → flat_map (λ l. l) (lines_of bs) ≡ bs → flat_map (λ l. l) (cond t ((b ∷ []) ∷ lines_of bs) (grown b (lines_of bs))) ≡ b ∷ bs
    at true e = ap (λ (l : List ℕ). b ∷ l) e
    at false e = joined_grown b (lines_of bs) ∙ ap (λ (l : List ℕ). b ∷ l) e

-- texts with the same lines are the same
pub lines_told : (a b : List ℕ) → lines_of a ≡ lines_of b → a ≡ b
lines_told a b e = sym (joined a) ∙ ap (flat_map (λ l. l)) e ∙ joined b
