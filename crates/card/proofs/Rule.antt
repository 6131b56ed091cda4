-- The rule of the character table: one test at its entries, and one at all bytes.
use Rattle.std.proofs.Common.{◌≡◌, ℕ, zero, suc, ◌+◌, ◌<◌, Bool, true, false, ◌&&◌, eqb, ltb, length, get_or, Some, None, Option, sym, refl, ap, ◌∙◌, zero-add, arith, ◌≤◌, ◌⊎◌, inl, inr}
use Rattle.std.proofs.lemmas.List.{get_or_default, get_or_past}
use Rattle.std.proofs.lemmas.Bool.{cases_lt, false≢true, eqb-true, eq-eqb, lt-ltb, le-ltb, cond-true, cond-false}
use Rattle.std.proofs.lemmas.Bool.Decides.{Decides-below_and}
use Rattle.card.specs.Table.{characters, character_of, code_of, run_code, Undo, Stands}
use Rattle.card.proofs.Places.{place_some, place_none, every, every_at}

-- whether two codes are the same, or none
abbrev same : Option ℕ → Option ℕ → Bool
same None None = true
same None (Some d) = false
same (Some c) None = false
same (Some c) (Some d) = eqb c d

same_true : (x y : Option ℕ) → same x y ≡ true → x ≡ y
same_true None None t = refl
same_true None (Some d) t = absurd (false≢true t)
same_true (Some c) None t = absurd (false≢true t)
same_true (Some c) (Some d) t = ap Some (eqb-true c d t)

true_same : (x y : Option ℕ) → x ≡ y → same x y ≡ true
true_same None None e = refl
true_same None (Some d) e = let z : ◌≡◌ {A = ℕ} 0 1 = cc in absurd (omega arith)
true_same (Some c) None e = let z : ◌≡◌ {A = ℕ} 0 1 = cc in absurd (omega arith)
true_same (Some c) (Some d) e = eq-eqb c d (cc)

-- the table has 56 characters
long : length characters ≡ 56
unfolding characters
long = refl

-- each character's first place is its code
places : every (λ k x. same (code_of x) (Some k)) 0 characters ≡ true
unfolding characters code_of
places = refl

-- the runs give the places, at each byte below n
abbrev agree : ℕ → Bool
agree zero = true
agree (suc n) = same (run_code n) (code_of n) && agree n

agrees : agree 256 ≡ true
unfolding characters code_of
agrees = refl

pub run_code_found : (b : ℕ) → b < 256 → run_code b ≡ code_of b
run_code_found = (Decides-below_and (λ k. same (run_code k) (code_of k)) (λ k. run_code k ≡ code_of k) agree (λ k. (same_true (run_code k) (code_of k), true_same (run_code k) (code_of k))) refl (λ _. refl) 256).0 agrees

-- below 56 the character is the table's entry
pub entry : (c : ℕ) → c < 56 → character_of c ≡ get_or characters c 0
entry c h = cond-true (ltb c 56) (get_or characters c 0) 32 (lt-ltb c 56 h)

-- past the table's end it is a blank
pub entry_or_blank : (c : ℕ) → get_or characters c 32 ≡ character_of c
entry_or_blank c = at (cases_lt c 56)
  where
    at : (c < 56) ⊎ (56 ≤ c) → get_or characters c 32 ≡ character_of c
    at (inl h) = get_or_default characters c 32 0 (omega (arith, long)) ∙ sym (entry c h)
    at (inr h) = get_or_past characters c 32 (omega (arith, long)) ∙ sym (cond-false (ltb c 56) (get_or characters c 0) 32 (le-ltb c 56 h))

code_found : (c : ℕ) → c < 56 → code_of (get_or characters c 0) ≡ Some c
code_found c h =
    let k : c < length characters = omega (arith, long) in
    same_true (code_of (get_or characters c 0)) (Some (0 + c)) (every_at (λ k x. same (code_of x) (Some k)) 0 characters places c k) ∙ ap Some (zero-add c)

character_found : (b c : ℕ) → code_of b ≡ Some c → (c < 56) × (character_of c ≡ b)
unfolding code_of
character_found b c e =
    let r = place_some 0 characters b c e in
    let i : c ≡ r.0 = omega arith in
    let h : c < 56 = omega (arith, long) in
    (h, entry c h ∙ ap (λ (n : ℕ). get_or characters n 0) i ∙ r.3)

none_found : (b c : ℕ) → code_of b ≡ None → c < 56 → character_of c ≡ b → ⊥
unfolding code_of
none_found b c e h f = place_none 0 characters b e c (omega (arith, long)) (sym (entry c h) ∙ f)

pub undo : Undo
undo =
    record {
      code_again = λ c h. ap code_of (entry c h) ∙ code_found c h;
      character_again = character_found;
      no_other = none_found;
    }

pub stands : (b : ℕ) (o : Option ℕ) → code_of b ≡ o → Stands b o
stands b None e = λ c h f. none_found b c e h f
stands b (Some c) e = character_found b c e
