-- The labels of registers and of words in memory.
use Rattle.std.proofs.Common.{◌≡◌, ℕ, zero, suc, ◌+◌, ◌-◌, ◌*◌, ◌/◌, ◌%◌, ◌<◌, ◌≤◌, cond, ltb, List, [], ◌∷◌, ◌++◌, sym, refl, ap, ◌∙◌, arith, subst, ◌⊎◌, inl, inr}
use native.Mathlib.Nat.{div-div-eq-div-mul}
use Rattle.std.proofs.lemmas.Bool.{cases_eq, cond-true, lt-ltb}
use Rattle.std.proofs.lemmas.List.{append_assoc, append-nil}
use Rattle.std.specs.List.{flat_map, AllByRecursion}
use Rattle.std.specs.Prelude.{codes}
use Rattle.cpu.specs.Executed.{row}
use Rattle.cpu.specs.Programs.{Memory}
use Rattle.cpu.specs.Registers.{held}
use Rattle.cpu.specs.declared.register.Register.{Register}
use Rattle.cpu.specs.declared.register.Register.TheVariants.{A, I1, I2, I3, I4, I5, I6, X}
use Rattle.cpu.specs.declared.registers.Registers.{Registers}
use Rattle.lines.specs.Lines.{four_digits, word_digits}
use Rattle.word.specs.declared.word.Word.{Word}
use Rattle.sheet.specs.Sheet.{is_plus_zero, memory_line_if, memory_text, register_line, registers_text, words_text}
use Rattle.sheet.proofs.Cuts.{without_tested}
use Rattle.sheet.proofs.Memory.{words_all}
use Rattle.sheet.proofs.Ranks.{IsLabel, Rising, rank, shown, shown_cut}

-- registers

abbrev name : Register → List ℕ
name A = codes "A"
name I1 = codes "I1"
name I2 = codes "I2"
name I3 = codes "I3"
name I4 = codes "I4"
name I5 = codes "I5"
name I6 = codes "I6"
name X = codes "X"

abbrev place : Register → ℕ
place A = 3
place I1 = 4
place I2 = 5
place I3 = 6
place I4 = 7
place I5 = 8
place I6 = 9
place X = 10

names : (k : Register) → IsLabel (place k) (name k)
names A = record { whole = without_tested 10 (codes "A") refl; ranks = λ r. refl }
names I1 = record { whole = without_tested 10 (codes "I1") refl; ranks = λ r. refl }
names I2 = record { whole = without_tested 10 (codes "I2") refl; ranks = λ r. refl }
names I3 = record { whole = without_tested 10 (codes "I3") refl; ranks = λ r. refl }
names I4 = record { whole = without_tested 10 (codes "I4") refl; ranks = λ r. refl }
names I5 = record { whole = without_tested 10 (codes "I5") refl; ranks = λ r. refl }
names I6 = record { whole = without_tested 10 (codes "I6") refl; ranks = λ r. refl }
names X = record { whole = without_tested 10 (codes "X") refl; ranks = λ r. refl }

abbrev all : List Register
all = A ∷ I1 ∷ I2 ∷ I3 ∷ I4 ∷ I5 ∷ I6 ∷ X ∷ []

rising : Rising place name 3 all 11
rising = (omega arith, names A, (omega arith, names I1, (omega arith, names I2, (omega arith, names I3, (omega arith, names I4, (omega arith, names I5, (omega arith, names I6, (omega arith, names X, omega arith))))))))

eight : (a b c d e f g h : List ℕ) → a ++ b ++ c ++ d ++ e ++ f ++ g ++ h ≡ a ++ (b ++ (c ++ (d ++ (e ++ (f ++ (g ++ (h ++ [])))))))
eight a b c d e f g h = simp (append_assoc, append-nil)

registers_shown : (r : Registers) → registers_text r ≡ shown place name (held r) all
registers_shown r =
    eight (register_line (name A) (held r A)) (register_line (name I1) (held r I1)) (register_line (name I2) (held r I2)) (register_line (name I3) (held r I3))
    (register_line (name I4) (held r I4)) (register_line (name I5) (held r I5)) (register_line (name I6) (held r I6)) (register_line (name X) (held r X))

register_at : (P : Register → Type 0) (k : Register) → AllByRecursion P all → P k
register_at P A h = h.0
register_at P I1 h = h.1.0
register_at P I2 h = h.1.1.0
register_at P I3 h = h.1.1.1.0
register_at P I4 h = h.1.1.1.1.0
register_at P I5 h = h.1.1.1.1.1.0
register_at P I6 h = h.1.1.1.1.1.1.0
register_at P X h = h.1.1.1.1.1.1.1.0

pub registers_cut : (p q : Registers) (r s : List ℕ) → 11 ≤ rank r → 11 ≤ rank s → registers_text p ++ r ≡ registers_text q ++ s → ((k : Register) → held p k ≡ held q k) × (r ≡ s)
registers_cut p q r s i j e =
    let c =
    shown_cut place name (held p) (held q) 3 all 11 r s rising i j
    (sym (ap (λ (l : List ℕ). l ++ r) (registers_shown p)) ∙ e ∙ ap (λ (l : List ℕ). l ++ s) (registers_shown q)) in
    (λ k. register_at (λ k. held p k ≡ held q k) k c.0, c.1)

-- memory

four_read : (l : ℕ) → l < 10000 → (48 + l / 1000 % 10 - 48) * 1000 + ((48 + l / 100 % 10 - 48) * 100 + ((48 + l / 10 % 10 - 48) * 10 + (48 + l % 10 - 48))) ≡ l
four_read l h =
    let a : l / 100 ≡ l / 10 / 10 = sym (div-div-eq-div-mul l 10 10) in
    let b : l / 1000 ≡ l / 10 / 10 / 10 = sym (ap (λ (n : ℕ). n / 10) (div-div-eq-div-mul l 10 10) ∙ div-div-eq-div-mul l 100 10) in
    rw (a, b) (omega arith)

place_label : (l : ℕ) → l < 10000 → IsLabel l (four_digits l)
unfolding four_digits
place_label l h =
    record {
      whole = (λ e. omega arith, (λ e. omega arith, (λ e. omega arith, (λ e. omega arith, tt))));
      ranks = λ r. cond-true (ltb (48 + l / 1000 % 10) 58) _ _ (lt-ltb (48 + l / 1000 % 10) 58 (omega arith)) ∙ four_read l h;
    }

rising_row : (a n : ℕ) → a + n ≤ 10000 → Rising (λ l. l) four_digits a (row a n) 10000
rising_row a zero h = omega arith
rising_row a (suc n) h = (omega arith, place_label a (omega arith), rising_row (suc a) n (omega arith))

word_shown : (l : ℕ) (w : Word) → memory_line_if l w ≡ register_line (four_digits l) w
word_shown l w = ap (cond (is_plus_zero w) []) (sym (append_assoc (four_digits l) (32 ∷ word_digits w) (10 ∷ [])))

words_shown : (m : Memory) (xs : List ℕ) → flat_map (λ l. memory_line_if l (m l)) xs ≡ shown (λ l. l) four_digits m xs
words_shown m [] = refl
words_shown m (l ∷ xs) =
    ap (λ (t : List ℕ). t ++ flat_map (λ l. memory_line_if l (m l)) xs) (word_shown l (m l))
    ∙ ap (λ (t : List ℕ). register_line (four_digits l) (m l) ++ t) (words_shown m xs)

row_at : (P : ℕ → Type 0) (a n : ℕ) → AllByRecursion P (row a n) → (l : ℕ) → a ≤ l → l < a + n → P l
row_at P a zero h l i j = absurd (omega arith)
row_at P a (suc n) h l i j = at (cases_eq a l) (λ k. row_at P (suc a) n h.1 l k (omega arith))
  where
    at : (a ≡ l) ⊎ (a ≡ l → ⊥) → (suc a ≤ l → P l) → P l
    at (inl e) f = subst P e h.0
    at (inr e) f = f (omega arith)

words_cut : (n : ℕ) → n ≤ 10000 → (m o : Memory) (r s : List ℕ) → 10000 ≤ rank r → 10000 ≤ rank s → words_text m n ++ r ≡ words_text o n ++ s → ((l : ℕ) → l < n → m l ≡ o l) × (r ≡ s)
words_cut n h m o r s i j e =
    let c =
    shown_cut (λ l. l) four_digits m o 0 (row 0 n) 10000 r s (rising_row 0 n (omega arith)) i j
    (sym (ap (λ (l : List ℕ). l ++ r) (words_shown m (row 0 n))) ∙ e ∙ ap (λ (l : List ℕ). l ++ s) (words_shown o (row 0 n))) in
    (λ l k. row_at (λ l. m l ≡ o l) 0 n c.0 l (omega arith) (omega arith), c.1)

memory_cut_at : (n : ℕ) → n ≡ 4000 → (m o : Memory) (r s : List ℕ) → 10000 ≤ rank r → 10000 ≤ rank s → memory_text m ++ r ≡ memory_text o ++ s → ((l : ℕ) → l < n → m l ≡ o l) × (r ≡ s)
memory_cut_at n d m o r s i j e =
    words_cut n (omega arith) m o r s i j (ap (λ (l : List ℕ). l ++ r) (words_all m n d) ∙ e ∙ sym (ap (λ (l : List ℕ). l ++ s) (words_all o n d)))

pub memory_cut : (m o : Memory) (r s : List ℕ) → 10000 ≤ rank r → 10000 ≤ rank s → memory_text m ++ r ≡ memory_text o ++ s → ((l : ℕ) → l < 4000 → m l ≡ o l) × (r ≡ s)
memory_cut m o r s i j e = memory_cut_at 4000 refl m o r s i j e
