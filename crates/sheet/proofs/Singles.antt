-- The lines that each sheet has: what they tell.
use Rattle.std.proofs.Common.{◌≡◌, ℕ, ◌^◌, ◌<◌, Bool, true, false, cond, eqb, List, [], ◌∷◌, ◌++◌, get_or, Some, None, Option, sym, refl, ap, ◌∙◌, arith}
use Rattle.std.proofs.lemmas.Fmt.{decimal_injective}
use Rattle.std.proofs.lemmas.Bool.{false≢true}
use Rattle.std.proofs.lemmas.List.{append_cancel_left}
use Rattle.std.specs.Prelude.{IfSome, codes, decimal}
use Rattle.std.specs.declared.cmp.Ordering.{Ordering}
use Rattle.std.specs.declared.cmp.Ordering.TheVariants.{Less, Equal, Greater}
use Rattle.flights.specs.Watch.{kind_number}
use Rattle.flights.specs.declared.mark.Mark.{Mark}
use Rattle.flights.specs.declared.mark.MarkKind.{MarkKind}
use Rattle.flights.specs.declared.mark.MarkKind.TheVariants.{InputTouched, OutputWritten, AreasMeet, UnitPolled, JStored}
use Rattle.lines.specs.Lines.{sign_text, word_digits}
use Rattle.machine.specs.Steps.{j_word}
use Rattle.machine.specs.declared.j.J.{J}
use Rattle.word.specs.declared.sign.Sign.{Sign}
use Rattle.word.specs.declared.sign.Sign.TheVariants.{Plus, Minus}
use Rattle.word.specs.declared.word.Word.{Word}
use Rattle.sheet.specs.Sheet.{line, mark_line, word_line, j_line, j_line_if, toggle_line, indicator_line}
use Rattle.sheet.proofs.Cuts.{Without, cut, without_append, without_decimal, without_tested}
use Rattle.sheet.proofs.Digits.{without_digits, word_told}
use Rattle.sheet.proofs.Ranks.{IsLine, rank}

-- a line tells its text
pub line_told : (x y : List ℕ) → Without 10 x → Without 10 y → line x ≡ line y → x ≡ y
line_told x y h k e = (cut 10 x y [] [] h k e).0

-- two numbers after a label

without_numbers : (l : List ℕ) (m n : ℕ) → Without 10 l → m < 2 ^ 64 → n < 2 ^ 64 → Without 10 (l ++ (32 ∷ (decimal m ++ (32 ∷ decimal n))))
without_numbers l m n h i j =
    without_append 10 l (32 ∷ (decimal m ++ (32 ∷ decimal n))) h
    (λ e. omega arith, without_append 10 (decimal m) (32 ∷ decimal n) (without_decimal 10 m (omega arith) i) (λ e. omega arith, without_decimal 10 n (omega arith) j))

-- two numbers by their digits
pair_told : (m n p q : ℕ) → m < 2 ^ 64 → n < 2 ^ 64 → p < 2 ^ 64 → q < 2 ^ 64 → decimal m ++ (32 ∷ decimal n) ≡ decimal p ++ (32 ∷ decimal q) → (m ≡ p) × (n ≡ q)
pair_told m n p q h i j k e =
    let t = cut 32 (decimal m) (decimal p) (decimal n) (decimal q) (without_decimal 32 m (omega arith) h) (without_decimal 32 p (omega arith) j) e in
    (decimal_injective m p h j t.0, decimal_injective n q i k t.1)

abbrev numbers : List ℕ → ℕ → ℕ → List ℕ
numbers l m n = l ++ (32 ∷ (decimal m ++ (32 ∷ decimal n)))

pub numbers_is_line : (l : List ℕ) (m n : ℕ) → Without 10 l → m < 2 ^ 64 → n < 2 ^ 64 → IsLine (line (numbers l m n))
numbers_is_line l m n g h i = record { text = numbers l m n; is = refl; whole = without_numbers l m n g h i }

pub numbers_told : (l : List ℕ) (m n p q : ℕ) → Without 10 l → m < 2 ^ 64 → n < 2 ^ 64 → p < 2 ^ 64 → q < 2 ^ 64 → line (numbers l m n) ≡ line (numbers l p q) → (m ≡ p) × (n ≡ q)
numbers_told l m n p q g h i j k e =
    let t = line_told (numbers l m n) (numbers l p q) (without_numbers l m n g h i) (without_numbers l p q g j k) e in
    let d = append_cancel_left l (32 ∷ (decimal m ++ (32 ∷ decimal n))) (32 ∷ (decimal p ++ (32 ∷ decimal q))) t in
    pair_told m n p q h i j k (cc)

-- the mark

kind_at : ℕ → MarkKind
kind_at n = cond (eqb n 1) InputTouched (cond (eqb n 2) OutputWritten (cond (eqb n 3) AreasMeet (cond (eqb n 4) UnitPolled JStored)))

kind_back : (k : MarkKind) → kind_at (kind_number k) ≡ k
unfolding kind_at
kind_back InputTouched = refl
kind_back OutputWritten = refl
kind_back AreasMeet = refl
kind_back UnitPolled = refl
kind_back JStored = refl

kind_small : (k : MarkKind) → kind_number k < 2 ^ 64
kind_small InputTouched = omega arith
kind_small OutputWritten = omega arith
kind_small AreasMeet = omega arith
kind_small UnitPolled = omega arith
kind_small JStored = omega arith

-- its numbers have room
abbrev pub MarkFits : Option Mark → Type 0
MarkFits m = IfSome m (λ x. (x.unit.number < 2 ^ 8) × (x.location < 2 ^ 16))

abbrev marked : Mark → List ℕ
marked m = codes "MARK " ++ (decimal (kind_number m.kind) ++ (32 ∷ (decimal m.unit.number ++ (32 ∷ decimal m.location))))

marked_without : (m : Mark) → (m.unit.number < 2 ^ 8) × (m.location < 2 ^ 16) → Without 10 (marked m)
marked_without m h =
    without_append 10 (codes "MARK ") (decimal (kind_number m.kind) ++ (32 ∷ (decimal m.unit.number ++ (32 ∷ decimal m.location))))
    (without_tested 10 (codes "MARK ") refl)
    (without_numbers (decimal (kind_number m.kind)) m.unit.number m.location (without_decimal 10 (kind_number m.kind) (omega arith) (kind_small m.kind)) (omega arith) (omega arith))

mark_same : (m n : Mark) → m.kind ≡ n.kind → m.unit.number ≡ n.unit.number → m.location ≡ n.location → m ≡ n
mark_same m n e f g = λ i. record { kind = e i; unit = record { number = f i }; location = g i }

marked_told : (m n : Mark) → (m.unit.number < 2 ^ 8) × (m.location < 2 ^ 16) → (n.unit.number < 2 ^ 8) × (n.location < 2 ^ 16) → marked m ≡ marked n → m ≡ n
marked_told m n h k e =
    let d : decimal (kind_number m.kind) ++ (32 ∷ (decimal m.unit.number ++ (32 ∷ decimal m.location))) ≡ decimal (kind_number n.kind) ++ (32 ∷ (decimal n.unit.number ++ (32 ∷ decimal n.location))) = cc in
    let t =
    cut 32 (decimal (kind_number m.kind)) (decimal (kind_number n.kind)) (decimal m.unit.number ++ (32 ∷ decimal m.location)) (decimal n.unit.number ++ (32 ∷ decimal n.location))
    (without_decimal 32 (kind_number m.kind) (omega arith) (kind_small m.kind)) (without_decimal 32 (kind_number n.kind) (omega arith) (kind_small n.kind)) d in
    let u = pair_told m.unit.number m.location n.unit.number n.location (omega arith) (omega arith) (omega arith) (omega arith) t.1 in
    let f = decimal_injective (kind_number m.kind) (kind_number n.kind) (kind_small m.kind) (kind_small n.kind) t.0 in
    mark_same m n (sym (kind_back m.kind) ∙ ap kind_at f ∙ kind_back n.kind) u.0 u.1

pub mark_is_line : (m : Option Mark) → MarkFits m → IsLine (mark_line m)
mark_is_line None h = record { text = codes "CLEAN"; is = refl; whole = without_tested 10 (codes "CLEAN") refl }
mark_is_line (Some m) h = record { text = marked m; is = refl; whole = marked_without m h }

pub mark_rank : (m : Option Mark) (r : List ℕ) → rank (mark_line m ++ r) ≡ 2
mark_rank None r = refl
mark_rank (Some m) r = refl

pub mark_told : (m n : Option Mark) → MarkFits m → MarkFits n → mark_line m ≡ mark_line n → m ≡ n
mark_told None None h k e = refl
mark_told None (Some n) h k e = let d = ap (λ (l : List ℕ). get_or l 0 0) e in absurd (omega arith)
mark_told (Some m) None h k e = let d = ap (λ (l : List ℕ). get_or l 0 0) e in absurd (omega arith)
mark_told (Some m) (Some n) h k e = ap Some (marked_told m n h k (line_told (marked m) (marked n) (marked_without m h) (marked_without n k) e))

-- J

pub j_is_line : (j : J) → IsLine (j_line j)
j_is_line j = at j.settled
  where
    at : (b : Bool) → IsLine (j_line_if b (j_word j))
    at true = record { text = codes "J" ++ 32 ∷ word_digits (j_word j); is = refl; whole = (λ e. omega arith, (λ e. omega arith, without_digits (j_word j))) }
    at false = record { text = codes "J UNSETTLED"; is = refl; whole = without_tested 10 (codes "J UNSETTLED") refl }

pub j_rank : (j : J) (r : List ℕ) → rank (j_line j ++ r) ≡ 11
j_rank j r = at j.settled
  where
    at : (b : Bool) → rank (j_line_if b (j_word j) ++ r) ≡ 11
    at true = refl
    at false = refl

sign_is_no_letter : (s : Sign) → sign_text s ≡ 85 → ⊥
sign_is_no_letter Plus e = omega arith
sign_is_no_letter Minus e = omega arith

word_is_no_letter : (w : Word) → word_line (codes "J") w ≡ line (codes "J UNSETTLED") → ⊥
unfolding word_digits
word_is_no_letter w e = sign_is_no_letter w.sign (ap (λ (l : List ℕ). get_or l 2 0) e)

pub j_told : (b c : Bool) (v w : Word) → j_line_if b v ≡ j_line_if c w → (b ≡ c) × (b ≡ true → v ≡ w)
j_told true true v w e =
    let h : (w : Word) → Without 10 (codes "J" ++ 32 ∷ word_digits w) = λ w. (λ e. omega arith, (λ e. omega arith, without_digits w)) in
    let t = line_told (codes "J" ++ 32 ∷ word_digits v) (codes "J" ++ 32 ∷ word_digits w) (h v) (h w) e in
    (refl, λ d. word_told v w (cc))
j_told true false v w e = absurd (word_is_no_letter v e)
j_told false true v w e = absurd (word_is_no_letter w (sym e))
j_told false false v w e = (refl, λ d. absurd (false≢true d))

-- the toggle and the indicator

pub toggle_is_line : (b : Bool) → IsLine (toggle_line b)
toggle_is_line true = record { text = codes "OV ON"; is = refl; whole = without_tested 10 (codes "OV ON") refl }
toggle_is_line false = record { text = codes "OV OFF"; is = refl; whole = without_tested 10 (codes "OV OFF") refl }

toggle_at : List ℕ → Bool
toggle_at l = eqb (get_or l 4 0) 78

toggle_back : (b : Bool) → toggle_at (toggle_line b) ≡ b
unfolding toggle_at
toggle_back true = refl
toggle_back false = refl

pub toggle_told : (b c : Bool) → toggle_line b ≡ toggle_line c → b ≡ c
toggle_told b c e = sym (toggle_back b) ∙ ap toggle_at e ∙ toggle_back c

pub indicator_is_line : (o : Ordering) → IsLine (indicator_line o)
indicator_is_line Less = record { text = codes "CI L"; is = refl; whole = without_tested 10 (codes "CI L") refl }
indicator_is_line Equal = record { text = codes "CI E"; is = refl; whole = without_tested 10 (codes "CI E") refl }
indicator_is_line Greater = record { text = codes "CI G"; is = refl; whole = without_tested 10 (codes "CI G") refl }

indicator_at : List ℕ → Ordering
indicator_at l = cond (eqb (get_or l 3 0) 76) Less (cond (eqb (get_or l 3 0) 69) Equal Greater)

indicator_back : (o : Ordering) → indicator_at (indicator_line o) ≡ o
unfolding indicator_at
indicator_back Less = refl
indicator_back Equal = refl
indicator_back Greater = refl

pub indicator_told : (o p : Ordering) → indicator_line o ≡ indicator_line p → o ≡ p
indicator_told o p e = sym (indicator_back o) ∙ ap indicator_at e ∙ indicator_back p
