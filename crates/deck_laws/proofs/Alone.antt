-- The value of an expression that is one symbol.
use Rattle.std.proofs.Common.{◌≡◌, ℕ, suc, ◌+◌, ◌-◌, ◌^◌, ◌<◌, Bool, true, false, cond, ◌&&◌, ◌||◌, eqb, leb, List, [], ◌∷◌, length, take, drop, Some, None, Option, sym, refl, ap, ◌∙◌, mod-eq_of_lt, arith}
use Rattle.arith.specs.Sums.{sum_sign, sum_size}
use Rattle.card.specs.Text.{text_codes, filled}
use Rattle.eval.specs.Eval.{as_number, applied_to, value_of, worked_by}
use Rattle.scan.specs.Atoms.{sign_of, atom_of, front_of, word_of as atom_of_marks, either_of, digits_from, all_digits, run_of}
use Rattle.scan.specs.Symbols.{is_letter, is_digit, is_mark, all_marks, any_letter, is_symbol, name_of}
use Rattle.scan.specs.Terms.{with_atom, on_term, more_of, terms_of}
use Rattle.scan.specs.declared.terms.Atom.{Atom}
use Rattle.scan.specs.declared.terms.Atom.TheVariants.{Symbol, Here}
use Rattle.scan.specs.declared.terms.Operator.{Operator}
use Rattle.scan.specs.declared.terms.Operator.TheVariants.{Plus as PlusOf, Minus as MinusOf}
use Rattle.std.proofs.lemmas.List.{take_all, drop_all}
use Rattle.std.proofs.lemmas.Bool.{both_ways, and_parts, lt-ltb}
use Rattle.std.proofs.lemmas.Bool.Decides.{nat_tests}
use Rattle.std.specs.Option.{option_map, option_and_then}
use Rattle.symbols.specs.Symbols.{known_as}
use Rattle.symbols.specs.declared.meaning.Meaning.{Meaning}
use Rattle.table.specs.declared.name.Name.{Name}
use Rattle.values.specs.Values.{plain, fitted, sum_of}
use Rattle.word.proofs.Same.{word_of_sign, word_of_magnitude, word_of_same}
use Rattle.word.specs.Word.{word_of}
use Rattle.word.specs.declared.sign.Sign.{Sign}
use Rattle.word.specs.declared.sign.Sign.TheVariants.{Plus, Minus}
use Rattle.word.specs.declared.word.Word.{Word}

-- a text that has a name is a symbol
pub name_symbol : (bs cs : List ℕ) → name_of bs ≡ Some cs → is_symbol bs ≡ true
name_symbol bs cs e = at (is_symbol bs) e
  where
    at : (b : Bool) → cond b (option_map (filled 10) (text_codes bs)) None ≡ Some cs → b ≡ true
    at true f = refl
    at false f = let z : ◌≡◌ {A = ℕ} 0 1 = cc in absurd (omega arith)

-- letters are no digits
no_number : (bs : List ℕ) → any_letter bs ≡ true → all_digits bs ≡ false
no_number [] h = absurd (both_ways _ refl h)
no_number (b ∷ bs) h = at (is_letter b) refl h (no_number bs)
  where
    after : (v : Bool) → all_digits bs ≡ false → (v && all_digits bs) ≡ false
    after true e = e
    after false e = refl

    at : (v : Bool) → is_letter b ≡ v → (v || any_letter bs) ≡ true → (any_letter bs ≡ true → all_digits bs ≡ false) → (is_digit b && all_digits bs) ≡ false
    at true e g rec = let d : is_digit b ≡ false = grind (arith, nat_tests) in ap (λ (v : Bool). v && all_digits bs) d
    at false e g rec = after (is_digit b) (rec g)

run_all : (bs : List ℕ) → all_marks bs ≡ true → run_of bs ≡ length bs
run_all [] h = refl
run_all (b ∷ bs) h =
    let p = and_parts (is_mark b) (all_marks bs) h in
    ap (λ (v : Bool). cond v (suc (run_of bs)) 0) p.0 ∙ ap suc (run_all bs p.1)

no_digits : (bs : List ℕ) (a b : Bool) → all_digits bs ≡ false → cond (a && (b && all_digits bs)) (Some (digits_from 0 bs)) None ≡ None
no_digits bs a b e = ap (λ (v : Bool). cond (a && (b && v)) (Some (digits_from 0 bs)) None) e ∙ at a b
  where
    at : (x y : Bool) → cond (x && (y && false)) (Some (digits_from 0 bs)) None ≡ None
    at true true = refl
    at true false = refl
    at false y = refl

-- the terms of a text that is one symbol
pub symbol_terms : (bs cs : List ℕ) → name_of bs ≡ Some cs → terms_of bs ≡ Some (record { op = PlusOf; atom = Symbol cs } ∷ [])
symbol_terms [] cs e = let z : ◌≡◌ {A = ℕ} 0 1 = cc in absurd (omega arith)
symbol_terms (b ∷ bs) cs e =
    let all = b ∷ bs in
    let s = and_parts (leb (length all) 10) (all_marks all && any_letter all) (name_symbol all cs e) in
    let m = and_parts (all_marks all) (any_letter all) s.1 in
    let mark : is_mark b ≡ true = (and_parts (is_mark b) (all_marks bs) m.0).0 in
    let plus : eqb b 43 ≡ false = grind (arith, nat_tests) in
    let minus : eqb b 45 ≡ false = grind (arith, nat_tests) in
    let star : eqb b 42 ≡ false = grind (arith, nat_tests) in
    let word : atom_of_marks all ≡ Some (Symbol cs) = ap (λ (o : Option ℕ). either_of o (name_of all)) (no_digits all (leb 1 (length all)) (leb (length all) 10) (no_number all m.1)) ∙ ap (option_map Symbol) e in
    let run = run_all all m.0 in
    let front : front_of all ≡ Some (Symbol cs, []) =
    ap (λ (n : ℕ). option_map (λ (a : Atom). (a, drop n all)) (atom_of_marks (take n all))) run
    ∙ ap (λ (l : List ℕ). option_map (λ (a : Atom). (a, drop (length all) all)) (atom_of_marks l)) (take_all (length all) all (omega arith))
    ∙ ap (λ (l : List ℕ). option_map (λ (a : Atom). (a, l)) (atom_of_marks all)) (drop_all (length all) all (omega arith))
    ∙ ap (option_map (λ (a : Atom). (a, []))) word
    in
    let sign : sign_of all ≡ (PlusOf, all) =
    ap (λ (v : Bool). cond v (PlusOf, bs) (cond (eqb b 45) (MinusOf, bs) (PlusOf, all))) plus ∙ ap (λ (v : Bool). cond v (MinusOf, bs) (PlusOf, all)) minus
    in
    ap (λ (p : Operator × List ℕ). on_term more_of (with_atom p.0 (atom_of p.1))) sign
    ∙ ap (λ (v : Bool). on_term more_of (with_atom PlusOf (cond v (Some (Here, bs)) (front_of all)))) star
    ∙ ap (λ (o : Option (Atom × List ℕ)). on_term more_of (with_atom PlusOf o)) front

-- zero and a number
plus_zero : (s : Sign) (m : ℕ) → m < 2 ^ 30 → (eqb m 0 ≡ true → s ≡ Plus) → fitted (sum_sign Plus 0 s m) (sum_size Plus 0 s m) ≡ Some (word_of s m)
plus_zero Plus m h z =
    let e : 0 + m ≡ m = omega arith in
    ap (fitted Plus) e ∙ ap (λ (v : Bool). cond v (Some (plain Plus m)) None) (lt-ltb m (2 ^ 30) h) ∙ at (eqb m 0)
  where
    at : (v : Bool) → Some (word_of (cond v Plus Plus) m) ≡ Some (word_of Plus m)
    at true = refl
    at false = refl
plus_zero Minus m h z = at (eqb m 0) refl
  where
    at : (v : Bool) → eqb m 0 ≡ v → fitted (sum_sign Plus 0 Minus m) (sum_size Plus 0 Minus m) ≡ Some (word_of Minus m)
    at true e = let f = z e in let q : ◌≡◌ {A = ℕ} 0 1 = cc in absurd (omega arith)
    at false e =
        let n : (0 - m) + (m - 0) ≡ m = omega arith in
        let l : leb m 0 ≡ false = grind (arith, nat_tests) in
        ap (λ (k : ℕ). fitted (cond (leb m 0) Plus Minus) k) n
        ∙ ap (λ (v : Bool). fitted (cond v Plus Minus) m) l
        ∙ ap (λ (v : Bool). cond v (Some (plain Minus m)) None) (lt-ltb m (2 ^ 30) h)
        ∙ ap (λ (v : Bool). Some (word_of (cond v Plus Minus) m)) e

-- a symbol's word as a number
pub number_magnitude : (v : Word) → (as_number v).magnitude ≡ v.magnitude
number_magnitude v = word_of_magnitude _ v.magnitude ∙ mod-eq_of_lt v.small

number_zero : (v : Word) → eqb (as_number v).magnitude 0 ≡ true → (as_number v).sign ≡ Plus
number_zero v h =
    word_of_sign _ v.magnitude
    ∙ ap (λ (b : Bool). cond b Plus v.sign) (ap (λ (n : ℕ). eqb n 0) (sym (number_magnitude v)) ∙ h)

zero_and : (u : Word) → (eqb u.magnitude 0 ≡ true → u.sign ≡ Plus) → sum_of (word_of Plus 0) u ≡ Some u
zero_and u z =
    ap (λ (s : Sign). fitted (sum_sign s (word_of Plus 0).magnitude u.sign u.magnitude) (sum_size s (word_of Plus 0).magnitude u.sign u.magnitude)) (word_of_sign Plus 0)
    ∙ ap (λ (n : ℕ). fitted (sum_sign Plus n u.sign u.magnitude) (sum_size Plus n u.sign u.magnitude)) (word_of_magnitude Plus 0)
    ∙ plus_zero u.sign u.magnitude u.small z
    ∙ ap Some (word_of_same u)

-- the value of a text that is one symbol
pub symbol_value : (es : List (Name × Meaning)) (here : ℕ) (bs cs : List ℕ) (v : Word) → name_of bs ≡ Some cs → known_as es (record { codes = cs }) ≡ Some v → value_of es here bs ≡ Some (as_number v)
symbol_value es here bs cs v e k =
    ap (worked_by es here (word_of Plus 0)) (symbol_terms bs cs e)
    ∙ ap (λ (o : Option Word). option_and_then (λ (w : Word). Some w) (applied_to PlusOf (word_of Plus 0) (option_map as_number o))) k
    ∙ ap (option_and_then (λ (w : Word). Some w)) (zero_and (as_number v) (number_zero v))
