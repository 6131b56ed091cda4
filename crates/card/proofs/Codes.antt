-- The codes of a text, there and back.
use Rattle.std.proofs.Common.{◌≡◌, ℕ, zero, suc, ◌+◌, ◌-◌, ◌<◌, ◌≤◌, Bool, true, false, ◌&&◌, leb, ltb, List, [], ◌∷◌, ◌++◌, map, length, get_or, take, drop, set, replicate, is_some, Some, None, Option, sym, refl, ap, ◌∙◌, arith}
use Rattle.std.proofs.lemmas.List.{at_drop_more, at_drop_all, append-nil, map-append, drop-drop, drop-replicate, drop-set-lt, take-append-drop}
use Rattle.std.proofs.lemmas.Bool.{and_from, cond-true, le-leb, lt-ltb}
use Rattle.std.specs.Option.{option_map}
use Rattle.std.specs.List.{AllByRecursion}
use Rattle.word.specs.Bytes.{are_bytes}
use Rattle.word.proofs.Bytes.{bytes_append, bytes_zeros}
use Rattle.card.specs.Table.{characters, character_of, code_of}
use Rattle.card.specs.Text.{both, text_codes, filled, codes_in, padded, all_coded}
use Rattle.card.proofs.Parts.{ahead}
use Rattle.card.proofs.Rule.{undo}

-- what the codes of a text are
pub record Coded (bs cs : List ℕ) : Type 0 where
  pub long : length cs ≡ length bs
  pub bytes : are_bytes cs ≡ true
  pub text : map character_of cs ≡ bs

pub coded : (bs cs : List ℕ) → text_codes bs ≡ Some cs → Coded bs cs
coded [] cs e = let f : [] ≡ cs = cc in record { long = sym (ap length f); bytes = sym (ap are_bytes f); text = sym (ap (map character_of) f) }
coded (b ∷ bs) cs e = at (code_of b) (text_codes bs) refl refl e (coded bs)
  where
    at : (o : Option ℕ) (r : Option (List ℕ)) → code_of b ≡ o → text_codes bs ≡ r → both o r ≡ Some cs → ((ds : List ℕ) → text_codes bs ≡ Some ds → Coded bs ds) → Coded (b ∷ bs) cs
    at None r p q g rec = let z : ◌≡◌ {A = ℕ} 0 1 = cc in absurd (omega arith)
    at (Some c) None p q g rec = let z : ◌≡◌ {A = ℕ} 0 1 = cc in absurd (omega arith)
    at (Some c) (Some ds) p q g rec =
        let f : c ∷ ds ≡ cs = cc in
        let r = rec ds q in
        let k = undo.character_again b c p in
        record {
          long = sym (ap length f) ∙ ap suc r.long;
          bytes = sym (ap are_bytes f) ∙ and_from (ltb c 64) (are_bytes ds) (lt-ltb c 64 (omega arith)) r.bytes;
          text = sym (ap (map character_of) f) ∙ ap (λ (d : ℕ). d ∷ map character_of ds) k.1 ∙ ap (λ (l : List ℕ). b ∷ l) r.text;
        }

-- one byte further in a text
pub codes_step : (made bs : List ℕ) (i : ℕ) (o : Option ℕ) → i < length bs → o ≡ code_of (get_or bs i 0) → ahead made (text_codes (drop i bs)) ≡ text_codes bs → ahead made (both o (text_codes (drop (i + 1) bs))) ≡ text_codes bs
codes_step made bs i o h e f = ap (λ (p : Option ℕ). ahead made (both p (text_codes (drop (i + 1) bs)))) e ∙ sym (ap (ahead made) (at_drop_more text_codes bs i 0 h)) ∙ f

-- the zeros after the codes that are written
zeros_less : (cs : List ℕ) (i x n : ℕ) → drop i cs ≡ replicate n 0 → drop (i + 1) (set cs i x) ≡ replicate (n - 1) 0
zeros_less cs i x n e = drop-set-lt (i + 1) cs i x (omega arith) ∙ sym (drop-drop 1 i cs) ∙ ap (drop 1) e ∙ drop-replicate 1 n 0

pub zeros_more : (n : ℕ) (cs : List ℕ) (i x : ℕ) → drop i cs ≡ replicate (n - i) 0 → drop (i + 1) (set cs i x) ≡ replicate (n - (i + 1)) 0
zeros_more n cs i x e =
    let k : n - i - 1 ≡ n - (i + 1) = omega arith in
    zeros_less cs i x (n - i) e ∙ ap (λ (m : ℕ). replicate m 0) k

-- a zero is a blank
zero_blanks : (n : ℕ) → map character_of (replicate n 0) ≡ replicate n 32
unfolding characters
zero_blanks zero = refl
zero_blanks (suc n) = ap (λ (l : List ℕ). 32 ∷ l) (zero_blanks n)

-- the characters of codes with zeros after them are the text and blanks
pub filled_text : (n : ℕ) (bs cs : List ℕ) → map character_of cs ≡ bs → map character_of (filled n cs) ≡ bs ++ replicate (n - length cs) 32
filled_text n bs cs e =
    map-append character_of cs (replicate (n - length cs) 0)
    ∙ ap (λ (l : List ℕ). l ++ map character_of (replicate (n - length cs) 0)) e
    ∙ ap (λ (l : List ℕ). bs ++ l) (zero_blanks (n - length cs))

-- what the codes of a text with zeros after them are
pub record Filled (n : ℕ) (bs cs : List ℕ) : Type 0 where
  pub value : Some cs ≡ codes_in n bs
  pub bytes : are_bytes cs ≡ true
  pub back : map character_of cs ≡ bs ++ replicate (n - length bs) 32

-- all codes of a text are written
pub written : (n : ℕ) (bs cs : List ℕ) (i : ℕ) → length bs ≤ n → i ≡ length bs → drop i cs ≡ replicate (n - i) 0 → ahead (take i cs) (text_codes (drop i bs)) ≡ text_codes bs → Filled n bs cs
written n bs cs i h e z m =
    let f : text_codes bs ≡ Some (take i cs) = sym m ∙ ap (ahead (take i cs)) (at_drop_all text_codes bs i (omega arith)) ∙ ap Some (append-nil (take i cs)) in
    let k = coded bs (take i cs) f in
    let g : cs ≡ filled n (take i cs) = sym (take-append-drop i cs) ∙ ap (λ (l : List ℕ). take i cs ++ l) (z ∙ ap (λ (j : ℕ). replicate (n - j) 0) (e ∙ sym k.long)) in
    record {
      value = ap Some g ∙ sym (ap (option_map (filled n)) f) ∙ sym (cond-true (leb (length bs) n) (option_map (filled n) (text_codes bs)) None (le-leb (length bs) n h));
      bytes = ap are_bytes g ∙ bytes_append (take i cs) (replicate (n - length (take i cs)) 0) k.bytes (bytes_zeros (n - length (take i cs)));
      back = ap (map character_of) g ∙ filled_text n bs (take i cs) k.text ∙ ap (λ (j : ℕ). bs ++ replicate (n - j) 32) k.long;
    }

-- a byte of a short text has no code
pub none_in : (n : ℕ) (bs : List ℕ) → length bs ≤ n → text_codes bs ≡ None → codes_in n bs ≡ None
none_in n bs h e = cond-true (leb (length bs) n) (option_map (filled n) (text_codes bs)) None (le-leb (length bs) n h) ∙ ap (option_map (filled n)) e

-- a text of n characters has no zeros after its codes
pub codes_full : (n : ℕ) (bs : List ℕ) → length bs ≡ n → codes_in n bs ≡ text_codes bs
codes_full n bs l = cond-true (leb (length bs) n) (option_map (filled n) (text_codes bs)) None (le-leb (length bs) n (omega arith)) ∙ at (text_codes bs) refl
  where
    at : (o : Option (List ℕ)) → text_codes bs ≡ o → option_map (filled n) o ≡ o
    at None e = refl
    at (Some cs) e = let r = coded bs cs e in let k : n - length cs ≡ 0 = omega (arith, r.long) in ap Some (ap (λ (j : ℕ). cs ++ replicate j 0) k ∙ append-nil cs)

-- codes below 56 come back
pub codes_again : (cs : List ℕ) → AllByRecursion (λ c. c < 56) cs → text_codes (map character_of cs) ≡ Some cs
codes_again [] h = refl
codes_again (c ∷ cs) h =
    ap (λ (o : Option ℕ). both o (text_codes (map character_of cs))) (undo.code_again c h.0)
    ∙ ap (both (Some c)) (codes_again cs h.1)

-- a text has codes where each of its bytes has one

pub some_both : {X : Type 0} (o : Option X) (r : Option (List X)) → is_some (both o r) ≡ (is_some o && is_some r)
some_both None r = refl
some_both (Some x) None = refl
some_both (Some x) (Some xs) = refl

pub some_mapped : {X Y : Type 0} (f : X → Y) (o : Option X) → is_some (option_map f o) ≡ is_some o
some_mapped f None = refl
some_mapped f (Some x) = refl

pub some_codes : (bs : List ℕ) → is_some (text_codes bs) ≡ all_coded bs
some_codes [] = refl
some_codes (b ∷ bs) = some_both (code_of b) (text_codes bs) ∙ ap (λ (t : Bool). is_some (code_of b) && t) (some_codes bs)

pub coded_append : (xs ys : List ℕ) → all_coded (xs ++ ys) ≡ (all_coded xs && all_coded ys)
coded_append [] ys = refl
coded_append (x ∷ xs) ys = at (is_some (code_of x)) (coded_append xs ys)
  where
    at : (t : Bool) → all_coded (xs ++ ys) ≡ (all_coded xs && all_coded ys) → (t && all_coded (xs ++ ys)) ≡ ((t && all_coded xs) && all_coded ys)
    at true e = e
    at false e = refl

-- a blank has a code
blanks_coded : (n : ℕ) → all_coded (replicate n 32) ≡ true
unfolding characters
blanks_coded zero = refl
blanks_coded (suc n) = ap (λ (o : Option ℕ). is_some o && all_coded (replicate n 32)) (undo.code_again 0 (omega arith)) ∙ blanks_coded n

pub padded_coded : (bs : List ℕ) → all_coded (padded bs) ≡ all_coded bs
unfolding padded
padded_coded bs =
    coded_append bs (replicate (80 - length bs) 32)
    ∙ ap (λ (t : Bool). all_coded bs && t) (blanks_coded (80 - length bs))
    ∙ at (all_coded bs)
  where
    at : (t : Bool) → (t && true) ≡ t
    at true = refl
    at false = refl
