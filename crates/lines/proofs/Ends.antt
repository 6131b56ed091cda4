-- A line whose blanks at the end go.
use Rattle.std.proofs.Common.{◌≡◌, ℕ, suc, ◌+◌, ◌-◌, ◌<◌, ◌≤◌, Bool, cond, ◌&&◌, eqb, List, [], ◌∷◌, ◌++◌, map, length, get_or, take, drop, set, replicate, sym, refl, ap, ◌∙◌, zero-add, arith, length-append, length-drop}
use Rattle.std.proofs.lemmas.List.{append_assoc, ext_get_or, length-map, length-replicate, get_or-map, take_more_set, take_at, drop_at, drop-drop, drop-set-lt, drop-replicate}
use Rattle.std.proofs.lemmas.Bool.{cond-false, and_right, ne_eqb}
use borrow.Rule.Slice.PartMut.{put_mid}
use denote.Param.Members.{Mut}
use Rattle.std.specs.Fn.{Called}
use Rattle.std.specs.Array.{IsMapOf}
use Rattle.std.specs.List.{flat_map}
use Rattle.std.proofs.lemmas.List.Concat.{flat_map-cons}
use Rattle.card.specs.Lines.{trimmed}
use Rattle.lines.specs.Lines.{two_digits, byte_texts}

-- where the second of two texts has blanks alone, the first is trimmed too
pub trimmed_none : (xs ys : List ℕ) → trimmed ys ≡ [] → trimmed (xs ++ ys) ≡ trimmed xs
trimmed_none [] ys e = e
trimmed_none (x ∷ xs) ys e = ap (λ (l : List ℕ). cond (eqb x 32 && eqb (length l) 0) [] (x ∷ l)) (trimmed_none xs ys e)

-- and otherwise the first stays
pub trimmed_some : (xs ys : List ℕ) → (trimmed ys ≡ [] → ⊥) → trimmed (xs ++ ys) ≡ xs ++ trimmed ys
trimmed_some [] ys n = refl
trimmed_some (x ∷ xs) ys n = ap (λ (l : List ℕ). cond (eqb x 32 && eqb (length l) 0) [] (x ∷ l)) (trimmed_some xs ys n) ∙ stays (eqb x 32) (trimmed ys) n
  where
    stays : (t : Bool) (l : List ℕ) → (l ≡ [] → ⊥) → cond (t && eqb (length (xs ++ l)) 0) [] (x ∷ (xs ++ l)) ≡ x ∷ (xs ++ l)
    stays t [] m = absurd (m refl)
    stays t (b ∷ bs) m = cond-false (t && eqb (length (xs ++ b ∷ bs)) 0) [] (x ∷ (xs ++ b ∷ bs)) (and_right t (eqb (length (xs ++ b ∷ bs)) 0) (ne_eqb (length (xs ++ b ∷ bs)) 0 (λ h. let k = simp length-append at h in omega arith)))

-- the bytes of a word by their texts, one after the other
pub bytes_joined : (bs : List ℕ) → flat_map (λ x. x) (map (λ (b : ℕ). 32 ∷ two_digits b) bs) ≡ byte_texts bs
bytes_joined [] = refl
bytes_joined (b ∷ bs) = flat_map-cons (λ x. x) (32 ∷ two_digits b) (map (λ (b : ℕ). 32 ∷ two_digits b) bs) ∙ ap (λ (l : List ℕ). 32 ∷ (two_digits b ++ l)) (bytes_joined bs)

-- what `map` of an array gives, where each call gives h of its element
pub mapped : {F A B : Type 0} (g : Mut F (A × Unit {0}) B) (h : A → B) (f : F) (xs : List A) (ys : List B) (n : ℕ) (d : A) (e : B) → length xs ≡ n → IsMapOf g f xs ys n → ((i : ℕ) (y : B) (p q : F) → i < n → Called g p (get_or xs i d, tt) y q → y ≡ h (get_or xs i d)) → ys ≡ map h xs
mapped g h f xs ys n d e l m k =
    ext_get_or e ys (map h xs) (m.long ∙ sym l ∙ sym (length-map xs h)) (λ i w. let r = m.at i d e (omega (arith, m.long)) in k i (get_or ys i e) r.0 r.1 (omega (arith, m.long)) r.2 ∙ sym (get_or-map h xs i d e (omega (arith, m.long))))

-- a write behind the front of a list
pub behind : (k m : ℕ) (xs ys zs : List ℕ) (n : ℕ) → n ≡ length xs + k → put_mid n m (xs ++ ys) zs ≡ xs ++ put_mid k m ys zs
behind k m [] ys zs n e = ap (λ (j : ℕ). put_mid j m ys zs) (e ∙ zero-add k)
behind k m (x ∷ xs) ys zs n e =
    let f : n ≡ suc (length xs + k) = omega arith in
    ap (λ (j : ℕ). put_mid j m (x ∷ (xs ++ ys)) zs) f ∙ ap (λ (l : List ℕ). x ∷ l) (behind k m xs ys zs (length xs + k) refl)

-- a line of one character, into which four digits, a blank and a word were written
pub numbered : (n e : ℕ) (ls ds : List ℕ) → length ls ≡ 4 → 21 ≤ n → put_mid 5 16 (set (ls ++ drop 4 (replicate n e)) 4 32) ds ≡ ls ++ (32 ∷ (ds ++ replicate (n - 21) e))
numbered n e ls ds l h =
    let q = drop 4 (replicate n e) in
    let k : 4 < length (ls ++ q) = simp (length-append, length-drop, length-replicate) (omega arith) in
    let t : take 5 (set (ls ++ q) 4 32) ≡ ls ++ (32 ∷ []) = take_more_set (ls ++ q) 4 32 k ∙ ap (λ (p : List ℕ). p ++ (32 ∷ [])) (take_at ls q 4 l) in
    let d : drop 16 (drop 5 (set (ls ++ q) 4 32)) ≡ replicate (n - 21) e =
    ap (drop 16) (drop-set-lt 5 (ls ++ q) 4 32 (omega arith))
    ∙ drop-drop 16 5 (ls ++ q)
    ∙ sym (drop-drop 17 4 (ls ++ q))
    ∙ ap (drop 17) (drop_at ls q 4 l)
    ∙ drop-drop 17 4 (replicate n e)
    ∙ drop-replicate 21 n e in
    ap (λ (p : List ℕ). p ++ (ds ++ drop 16 (drop 5 (set (ls ++ q) 4 32)))) t ∙ append_assoc ls (32 ∷ []) _ ∙ ap (λ (p : List ℕ). ls ++ (32 ∷ (ds ++ p))) d
