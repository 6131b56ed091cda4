-- Letters and digits, and the codes of a symbol.
use Rattle.std.proofs.Common.{◌≡◌, ℕ, ◌-◌, ◌<◌, ◌≤◌, Bool, true, false, cond, ◌&&◌, eqb, leb, List, [], ◌∷◌, map, length, is_some, IfSome, Some, None, Option, sym, refl, ap, ◌∙◌, arith}
use Rattle.std.proofs.lemmas.Bool.{and_parts, leb-true, le-leb, cond-true}
use Rattle.std.proofs.lemmas.Bool.Decides.{nat_tests}
use Rattle.std.specs.Option.{option_map}
use Rattle.card.specs.Lines.{trimmed}
use Rattle.card.specs.Table.{character_of, code_of, run_code}
use Rattle.card.specs.Text.{text_codes, filled, codes_in, all_coded}
use Rattle.card.proofs.Blanks.{trim_blanks}
use Rattle.card.proofs.Codes.{coded, filled_text, some_codes, some_mapped}
use Rattle.card.proofs.Rule.{run_code_found}
use Rattle.scan.specs.Symbols.{is_mark, all_marks, any_letter, is_symbol, name_of}

-- a letter or a digit has a code, and is no blank
mark_coded : (b : ℕ) → is_mark b ≡ true → is_some (code_of b) ≡ true
mark_coded b h =
    let k : b < 256 = grind (arith, nat_tests) in
    let e : is_some (run_code b) ≡ true = grind (arith, nat_tests) in
    ap is_some (sym (run_code_found b k)) ∙ e

mark_dark : (b : ℕ) → is_mark b ≡ true → eqb b 32 ≡ false
mark_dark b h = grind (arith, nat_tests)

marks_coded : (bs : List ℕ) → all_marks bs ≡ true → all_coded bs ≡ true
marks_coded [] h = refl
marks_coded (b ∷ bs) h =
    let p = and_parts (is_mark b) (all_marks bs) h in
    ap (λ (t : Bool). t && all_coded bs) (mark_coded b p.0) ∙ marks_coded bs p.1

-- nothing is trimmed
marks_trimmed : (bs : List ℕ) → all_marks bs ≡ true → trimmed bs ≡ bs
marks_trimmed [] h = refl
marks_trimmed (b ∷ bs) h =
    let p = and_parts (is_mark b) (all_marks bs) h in
    ap (λ (t : Bool). cond (t && eqb (length (trimmed bs)) 0) [] (b ∷ trimmed bs)) (mark_dark b p.0) ∙ ap (λ (l : List ℕ). b ∷ l) (marks_trimmed bs p.1)

symbol_marks : (bs : List ℕ) → is_symbol bs ≡ true → all_marks bs ≡ true
symbol_marks bs h = (and_parts (all_marks bs) (any_letter bs) (and_parts (leb (length bs) 10) (all_marks bs && any_letter bs) h).1).0

pub symbol_short : (bs : List ℕ) → is_symbol bs ≡ true → length bs ≤ 10
symbol_short bs h = leb-true (length bs) 10 (and_parts (leb (length bs) 10) (all_marks bs && any_letter bs) h).0

-- a symbol has codes
pub symbol_coded : (bs : List ℕ) → is_symbol bs ≡ true → is_some (text_codes bs) ≡ true
symbol_coded bs h = some_codes bs ∙ marks_coded bs (symbol_marks bs h)

-- a name's codes give its text back
pub name_back : (bs cs : List ℕ) → name_of bs ≡ Some cs → trimmed (map character_of cs) ≡ bs
name_back bs cs e = at (is_symbol bs) refl (text_codes bs) refl e
  where
    at : (t : Bool) → is_symbol bs ≡ t → (o : Option (List ℕ)) → text_codes bs ≡ o → cond t (option_map (filled 10) o) None ≡ Some cs → trimmed (map character_of cs) ≡ bs
    at false p o q f = let z : ◌≡◌ {A = ℕ} 0 1 = cc in absurd (omega arith)
    at true p None q f = let z : ◌≡◌ {A = ℕ} 0 1 = cc in absurd (omega arith)
    at true p (Some ds) q f =
        let k : cs ≡ filled 10 ds = cc in
        ap (λ (l : List ℕ). trimmed (map character_of l)) k ∙ ap trimmed (filled_text 10 bs ds (coded bs ds q).text) ∙ trim_blanks bs (10 - length ds) ∙ marks_trimmed bs (symbol_marks bs p)

-- so no two symbols have the same codes
pub name_alone : (bs cs ds : List ℕ) → name_of bs ≡ Some cs → name_of ds ≡ Some cs → ds ≡ bs
name_alone bs cs ds e f = sym (name_back ds cs f) ∙ name_back bs cs e

-- the codes of a symbol's characters are its name, and there are some
pub symbol_name : (bs : List ℕ) → is_symbol bs ≡ true → codes_in 10 bs ≡ name_of bs
symbol_name bs h =
    let o = option_map (filled 10) (text_codes bs) in
    cond-true (leb (length bs) 10) o None (le-leb (length bs) 10 (symbol_short bs h)) ∙ sym (cond-true (is_symbol bs) o None h)

pub symbol_named : (bs : List ℕ) → is_symbol bs ≡ true → is_some (name_of bs) ≡ true
symbol_named bs h = ap is_some (cond-true (is_symbol bs) (option_map (filled 10) (text_codes bs)) None h) ∙ some_mapped (filled 10) (text_codes bs) ∙ symbol_coded bs h

-- what a name's codes are said to give
pub name_gives : (bs : List ℕ) (o : Option (List ℕ)) → o ≡ name_of bs → IfSome o (λ cs. trimmed (map character_of cs) ≡ bs)
name_gives bs None e = tt
name_gives bs (Some cs) e = name_back bs cs (sym e)

pub name_only : (bs : List ℕ) (o : Option (List ℕ)) → o ≡ name_of bs → IfSome o (λ cs. (ds : List ℕ) → name_of ds ≡ Some cs → ds ≡ bs)
name_only bs None e = tt
name_only bs (Some cs) e = λ ds f. name_alone bs cs ds (sym e) f
