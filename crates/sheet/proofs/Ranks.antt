-- Lines one after the other, told apart by how they begin.
use Rattle.std.proofs.Common.{◌≡◌, ℕ, zero, suc, ◌+◌, ◌-◌, ◌*◌, ◌<◌, ◌≤◌, Bool, true, false, cond, eqb, ltb, List, [], ◌∷◌, ◌++◌, subst, sym, refl, ap, ◌∙◌, arith}
use Rattle.std.proofs.lemmas.Bool.{cases_eq}
use Rattle.std.proofs.lemmas.List.{append_assoc, append_cancel_left}
use Rattle.std.specs.List.{flat_map, AllByRecursion}
use Rattle.cpu.specs.Executed.{row}
use Rattle.word.specs.declared.word.Word.{Word}
use Rattle.lines.specs.Lines.{word_digits}
use Rattle.sheet.specs.Sheet.{is_plus_zero, register_line, word_line}
use Rattle.sheet.proofs.Cuts.{Without, cut, without_append}
use Rattle.sheet.proofs.Digits.{without_digits, word_told, zeros_same}
use Rattle.std.proofs.Common.{◌⊎◌, inl, inr}

-- the rank of a text by how it begins: its location where it begins with digits; and the order of the
-- printer's lines, the punch's, the mark's, the registers' and J's
abbrev head : List ℕ → ℕ
head [] = 0
head (b ∷ bs) = b

abbrev pub located : ℕ → List ℕ → ℕ
located b (c ∷ d ∷ e ∷ r) = (b - 48) * 1000 + ((c - 48) * 100 + ((d - 48) * 10 + (e - 48)))
located b (c ∷ d ∷ []) = 0
located b (c ∷ []) = 0
located b [] = 0

abbrev after_c : ℕ → ℕ
after_c c = cond (eqb c 32) 1 (cond (eqb c 10) 1 2)

abbrev lettered : ℕ → ℕ → ℕ
lettered b c =
    cond (eqb b 80) 0 (
    cond (eqb b 67) (after_c c) (
    cond (eqb b 77) 2 (
    cond (eqb b 65) 3 (
    cond (eqb b 73) (c - 45) (
    cond (eqb b 88) 10 (
    cond (eqb b 74) 11 10000))))))

abbrev pub rank : List ℕ → ℕ
rank [] = 0
rank (b ∷ bs) = cond (ltb b 58) (located b bs) (lettered b (head bs))

-- a text with byte 10 at its end alone
pub record IsLine (x : List ℕ) : Type 0 where
  pub text : List ℕ
  pub is : x ≡ text ++ 10 ∷ []
  pub whole : Without 10 text

pub line_cut : (x y r s : List ℕ) → IsLine x → IsLine y → x ++ r ≡ y ++ s → (x ≡ y) × (r ≡ s)
line_cut x y r s h k e =
    let f : h.text ++ 10 ∷ r ≡ k.text ++ 10 ∷ s =
    sym (append_assoc h.text (10 ∷ []) r) ∙ ap (λ (l : List ℕ). l ++ r) (sym h.is) ∙ e ∙ ap (λ (l : List ℕ). l ++ s) k.is ∙ append_assoc k.text (10 ∷ []) s in
    let t = cut 10 h.text k.text r s h.whole k.whole f in
    (h.is ∙ ap (λ (l : List ℕ). l ++ 10 ∷ []) t.0 ∙ sym k.is, t.1)

-- lines of one rank, and then what has a higher one
pub record Ranked (k : ℕ) (x : List ℕ) : Type 0 where
  pub line : IsLine x
  pub ranks : (r : List ℕ) → rank (x ++ r) ≡ k

pub many_rank : (k : ℕ) (f : ℕ → List ℕ) (a n : ℕ) (r : List ℕ) → ((p : ℕ) → Ranked k (f p)) → k ≤ rank r → k ≤ rank (flat_map f (row a n) ++ r)
many_rank k f a zero r h l = l
many_rank k f a (suc n) r h l =
    let e = ap rank (append_assoc (f a) (flat_map f (row (suc a) n)) r) ∙ (h a).ranks (flat_map f (row (suc a) n) ++ r) in
    omega (arith, e)

pub many_cut : (k : ℕ) (f g : ℕ → List ℕ) (a n m : ℕ) (r s : List ℕ) → ((p : ℕ) → Ranked k (f p)) → ((p : ℕ) → Ranked k (g p)) → k < rank r → k < rank s → flat_map f (row a n) ++ r ≡ flat_map g (row a m) ++ s → (n ≡ m) × ((p : ℕ) → a ≤ p → p < a + n → f p ≡ g p) × (r ≡ s)
many_cut k f g a zero zero r s h i l m e = (refl, λ p u v. absurd (omega arith), e)
many_cut k f g a zero (suc n) r s h i l m e =
    let d = ap rank (e ∙ append_assoc (g a) (flat_map g (row (suc a) n)) s) ∙ (i a).ranks (flat_map g (row (suc a) n) ++ s) in
    absurd (omega (arith, d))
many_cut k f g a (suc n) zero r s h i l m e =
    let d = ap rank (sym e ∙ append_assoc (f a) (flat_map f (row (suc a) n)) r) ∙ (h a).ranks (flat_map f (row (suc a) n) ++ r) in
    absurd (omega (arith, d))
many_cut k f g a (suc n) (suc q) r s h i l m e =
    let c = line_cut (f a) (g a) (flat_map f (row (suc a) n) ++ r) (flat_map g (row (suc a) q) ++ s) (h a).line (i a).line (sym (append_assoc (f a) (flat_map f (row (suc a) n)) r) ∙ e ∙ append_assoc (g a) (flat_map g (row (suc a) q)) s) in
    let t = many_cut k f g (suc a) n q r s h i l m c.1 in
    (ap suc t.0, λ p u v. at p u v c.0 t.1 (cases_eq p a), t.2)
  where
    at : (p : ℕ) → a ≤ p → p < a + suc n → f a ≡ g a → ((j : ℕ) → suc a ≤ j → j < suc a + n → f j ≡ g j) → (p ≡ a) ⊎ (p ≡ a → ⊥) → f p ≡ g p
    at p u v c t (inl d) = subst (λ (j : ℕ). f j ≡ g j) (sym d) c
    at p u v c t (inr d) = t p (omega arith) (omega arith)

-- a label of a rank, before a blank
pub record IsLabel (k : ℕ) (label : List ℕ) : Type 0 where
  pub whole : Without 10 label
  pub ranks : (r : List ℕ) → rank (label ++ 32 ∷ r) ≡ k

-- a word by such a label; +0 has no line

word_rank : (k : ℕ) (l : List ℕ) (w : Word) (r : List ℕ) → IsLabel k l → rank (word_line l w ++ r) ≡ k
word_rank k l w r h =
    ap rank (append_assoc (l ++ 32 ∷ word_digits w) (10 ∷ []) r ∙ append_assoc l (32 ∷ word_digits w) (10 ∷ r))
    ∙ h.ranks (word_digits w ++ 10 ∷ r)

word_cut : (k : ℕ) (l : List ℕ) (v w : Word) (r s : List ℕ) → IsLabel k l → k < rank r → k < rank s → register_line l v ++ r ≡ register_line l w ++ s → (v ≡ w) × (r ≡ s)
word_cut k l v w r s h i j e = at (is_plus_zero v) (is_plus_zero w) refl refl e
  where
    text : (w : Word) → Without 10 (l ++ 32 ∷ word_digits w)
    text w = without_append 10 l (32 ∷ word_digits w) h.whole (λ e. omega arith, without_digits w)

    at : (y z : Bool) → is_plus_zero v ≡ y → is_plus_zero w ≡ z → cond y [] (word_line l v) ++ r ≡ cond z [] (word_line l w) ++ s → (v ≡ w) × (r ≡ s)
    at true true p q f = (zeros_same v w p q, f)
    at true false p q f = let d = ap rank f ∙ word_rank k l w s h in absurd (omega arith)
    at false true p q f = let d = ap rank (sym f) ∙ word_rank k l v r h in absurd (omega arith)
    at false false p q f =
        let t =
        cut 10 (l ++ 32 ∷ word_digits v) (l ++ 32 ∷ word_digits w) r s (text v) (text w)
        (sym (append_assoc (l ++ 32 ∷ word_digits v) (10 ∷ []) r) ∙ f ∙ append_assoc (l ++ 32 ∷ word_digits w) (10 ∷ []) s) in
        let d = append_cancel_left l (32 ∷ word_digits v) (32 ∷ word_digits w) t.0 in
        (word_told v w (cc), t.1)

-- words by labels of rising ranks, from low to high
module _ {X : Type 0} (ranks : X → ℕ) (label : X → List ℕ) where
  abbrev pub Rising : ℕ → List X → ℕ → Type 0
  Rising low [] high = low ≤ high
  Rising low (x ∷ xs) high = (low ≤ ranks x) × IsLabel (ranks x) (label x) × Rising (suc (ranks x)) xs high

  abbrev pub shown : (X → Word) → List X → List ℕ
  shown v xs = flat_map (λ x. register_line (label x) (v x)) xs

  shown_more : (v : X → Word) (x : X) (xs : List X) (r : List ℕ) → shown v (x ∷ xs) ++ r ≡ register_line (label x) (v x) ++ (shown v xs ++ r)
  shown_more v x xs r = append_assoc (register_line (label x) (v x)) (shown v xs) r

  pub shown_rank : (v : X → Word) (low : ℕ) (xs : List X) (high : ℕ) (r : List ℕ) → Rising low xs high → high ≤ rank r → low ≤ rank (shown v xs ++ r)
  shown_rank v low [] high r h l = omega (arith, h)
  shown_rank v low (x ∷ xs) high r h l =
      let rest = shown_rank v (suc (ranks x)) xs high r h.2 l in
      subst (λ (t : List ℕ). low ≤ rank t) (sym (shown_more v x xs r)) (at (is_plus_zero (v x)) h.0 rest)
    where
      at : (z : Bool) → low ≤ ranks x → suc (ranks x) ≤ rank (shown v xs ++ r) → low ≤ rank (cond z [] (word_line (label x) (v x)) ++ (shown v xs ++ r))
      at true p q = omega arith
      at false p q = let e = word_rank (ranks x) (label x) (v x) (shown v xs ++ r) h.1 in omega arith

  pub shown_cut : (v w : X → Word) (low : ℕ) (xs : List X) (high : ℕ) (r s : List ℕ) → Rising low xs high → high ≤ rank r → high ≤ rank s → shown v xs ++ r ≡ shown w xs ++ s → AllByRecursion (λ x. v x ≡ w x) xs × (r ≡ s)
  shown_cut v w low [] high r s h i j e = (tt, e)
  shown_cut v w low (x ∷ xs) high r s h i j e =
      let c =
      word_cut (ranks x) (label x) (v x) (w x) (shown v xs ++ r) (shown w xs ++ s) h.1
      (shown_rank v (suc (ranks x)) xs high r h.2 i) (shown_rank w (suc (ranks x)) xs high s h.2 j)
      (sym (shown_more v x xs r) ∙ e ∙ shown_more w x xs s) in
      let t = shown_cut v w (suc (ranks x)) xs high r s h.2 i j c.1 in
      ((c.0, t.0), t.1)
