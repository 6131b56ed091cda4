-- The lines of printer and punch.
use Rattle.std.proofs.Common.{◌≡◌, ℕ, ◌<◌, ◌≤◌, Bool, true, false, cond, ◌&&◌, eqb, ltb, List, [], ◌∷◌, ◌++◌, map, length, replicate, Some, None, Option, ◌⊎◌, inl, inr, sym, refl, ap, ◌∙◌, arith, length-append}
use Rattle.std.proofs.lemmas.Bool.{and_parts, cases_lt, cond-false, eqb-true, le-ltb}
use Rattle.std.proofs.lemmas.List.{length-replicate, length-take-le, nil_from_length}
use Rattle.std.specs.List.{flat_map}
use Rattle.card.specs.Lines.{trimmed}
use Rattle.card.specs.Table.{characters, character_of, code_of}
use Rattle.card.proofs.Rule.{undo}
use Rattle.rack.specs.Units.{Holding, kind_of, word_shown, text_in, text_of_kind, text_of_unit, columns}
use Rattle.rack.specs.declared.kind.Kind.{Kind}
use Rattle.rack.specs.declared.kind.Kind.TheVariants.{Tape, Disk, Reader, Punch, Printer}
use Rattle.word.specs.Word.{bytes_of}
use Rattle.word.specs.declared.sign.Sign.{Sign}
use Rattle.word.specs.declared.sign.Sign.TheVariants.{Plus, Minus}
use Rattle.word.specs.declared.word.Word.{Word}
use Rattle.sheet.specs.Sheet.{line, block_line}
use Rattle.sheet.proofs.Cuts.{Without, without_append, without_take, without_blanks}
use Rattle.sheet.proofs.Ranks.{IsLine, Ranked, rank}
use Rattle.sheet.proofs.Singles.{line_told}

-- no character is byte 10

no_code : code_of 10 ≡ None
unfolding characters code_of
no_code = refl

no_end : (c : ℕ) → character_of c ≡ 10 → ⊥
no_end c e = at (cases_lt c 56)
  where
    at : (c < 56) ⊎ (56 ≤ c) → ⊥
    at (inl h) = undo.no_other 10 c no_code h e
    at (inr h) = let f = sym (cond-false (ltb c 56) _ 32 (le-ltb c 56 h)) ∙ e in omega arith

without_characters : (bs : List ℕ) → Without 10 (map character_of bs)
without_characters [] = tt
without_characters (b ∷ bs) = (no_end b, without_characters bs)

without_word : (s : Sign) (w : Word) → Without 10 (word_shown s w)
without_word Plus w = without_characters (bytes_of w)
without_word Minus w = without_blanks 5

without_words : (ws : List Word) → Without 10 (flat_map (λ w. word_shown w.sign w) ws)
without_words [] = tt
without_words (w ∷ ws) = without_append 10 (word_shown w.sign w) (flat_map (λ w. word_shown w.sign w) ws) (without_word w.sign w) (without_words ws)

without_block : (b : Option (Option (List Word))) → Without 10 (text_in b)
without_block None = tt
without_block (Some None) = tt
without_block (Some (Some ws)) = without_words ws

without_kind : (k : Option Kind) (h : Holding) (p : ℕ) → Without 10 (text_of_kind k h p)
without_kind None h p = tt
without_kind (Some Tape) h p = tt
without_kind (Some Disk) h p = tt
without_kind (Some Reader) h p = tt
without_kind (Some Punch) h p = without_block _
without_kind (Some Printer) h p = without_block _

pub without_text : (u : ℕ) (h : Option Holding) (p : ℕ) → Without 10 (text_of_unit u h p)
without_text u None p = tt
without_text u (Some h) p = without_kind (kind_of u) h p

pub without_columns : (bs : List ℕ) → Without 10 bs → Without 10 (columns bs)
unfolding columns
without_columns bs h = without_take 10 120 (bs ++ replicate 120 32) (without_append 10 bs (replicate 120 32) h (without_blanks 120))

pub length_columns : (bs : List ℕ) → length (columns bs) ≡ 120
unfolding columns
length_columns bs = length-take-le 120 (bs ++ replicate 120 32) (omega (arith, length-append bs (replicate 120 32), length-replicate {A = ℕ} 120 32))

-- texts of one length by what is left of them without the blanks at their ends

without_trimmed : (xs : List ℕ) → Without 10 xs → Without 10 (trimmed xs)
without_trimmed [] h = tt
without_trimmed (x ∷ xs) h = at (eqb x 32 && eqb (length (trimmed xs)) 0) (without_trimmed xs h.1)
  where
    at : (t : Bool) → Without 10 (trimmed xs) → Without 10 (cond t [] (x ∷ trimmed xs))
    at true k = tt
    at false k = (h.0, k)

trimmed_told : (xs ys : List ℕ) → length xs ≡ length ys → trimmed xs ≡ trimmed ys → xs ≡ ys
trimmed_told [] [] l e = refl
trimmed_told [] (y ∷ ys) l e = absurd (omega arith)
trimmed_told (x ∷ xs) [] l e = absurd (omega arith)
trimmed_told (x ∷ xs) (y ∷ ys) l e = at (eqb x 32 && eqb (length (trimmed xs)) 0) (eqb y 32 && eqb (length (trimmed ys)) 0) refl refl e (trimmed_told xs ys (omega arith))
  where
    blank : (z : ℕ) (zs : List ℕ) → (eqb z 32 && eqb (length (trimmed zs)) 0) ≡ true → (z ≡ 32) × (trimmed zs ≡ [])
    blank z zs e = let p = and_parts (eqb z 32) (eqb (length (trimmed zs)) 0) e in (eqb-true z 32 p.0, nil_from_length (trimmed zs) (eqb-true (length (trimmed zs)) 0 p.1))

    at : (s t : Bool) → (eqb x 32 && eqb (length (trimmed xs)) 0) ≡ s → (eqb y 32 && eqb (length (trimmed ys)) 0) ≡ t → cond s [] (x ∷ trimmed xs) ≡ cond t [] (y ∷ trimmed ys) → (trimmed xs ≡ trimmed ys → xs ≡ ys) → x ∷ xs ≡ y ∷ ys
    at true true p q f more =
        let b = blank x xs p in
        let c = blank y ys q in
        let t = more (b.1 ∙ sym c.1) in
        cc (b.0, c.0)
    at true false p q f more = absurd (let h = ap length f in omega arith)
    at false true p q f more = absurd (let h = ap length f in omega arith)
    at false false p q f more =
        let g : trimmed xs ≡ trimmed ys = cc in
        let t = more g in
        cc

-- the lines, each with its letter

pub block_told : (l : ℕ) (xs ys : List ℕ) → (l ≡ 32 → ⊥) → (l ≡ 10 → ⊥) → length xs ≡ length ys → Without 10 xs → Without 10 ys → block_line l xs ≡ block_line l ys → xs ≡ ys
block_told l xs ys g g′ n h k e =
    let t =
    line_told (trimmed (l ∷ 32 ∷ xs)) (trimmed (l ∷ 32 ∷ ys))
    (without_trimmed (l ∷ 32 ∷ xs) (g′, (λ e. omega arith, h))) (without_trimmed (l ∷ 32 ∷ ys) (g′, (λ e. omega arith, k))) e in
    let u : l ∷ 32 ∷ xs ≡ l ∷ 32 ∷ ys = trimmed_told (l ∷ 32 ∷ xs) (l ∷ 32 ∷ ys) (omega arith) t in
    cc

block_is_line : (l : ℕ) (xs : List ℕ) → (l ≡ 10 → ⊥) → Without 10 xs → IsLine (block_line l xs)
block_is_line l xs g h = record { text = trimmed (l ∷ 32 ∷ xs); is = refl; whole = without_trimmed (l ∷ 32 ∷ xs) (g, (λ e. omega arith, h)) }

pub printed : (xs : List ℕ) → Without 10 xs → Ranked 0 (block_line 80 xs)
printed xs h = record { line = block_is_line 80 xs (λ e. omega arith) h; ranks = λ r. refl }

pub punched : (xs : List ℕ) → Without 10 xs → Ranked 1 (block_line 67 xs)
punched xs h = record { line = block_is_line 67 xs (λ e. omega arith) h; ranks = λ r. at r (eqb (length (trimmed xs)) 0) }
  where
    at : (r : List ℕ) (t : Bool) → rank (line (67 ∷ cond t [] (32 ∷ trimmed xs)) ++ r) ≡ 1
    at r true = refl
    at r false = refl
