-- Words of five characters and blocks of words, there and back.
use Rattle.std.proofs.Common.{◌≡◌, ℕ, zero, suc, ◌+◌, ◌-◌, ◌*◌, ◌<◌, Bool, ◌&&◌, leb, List, [], ◌∷◌, ◌++◌, map, length, get_or, take, drop, replicate, is_some, Some, None, Option, set, sym, refl, ap, ◌∙◌, arith, length-append, length-drop}
use Rattle.std.proofs.lemmas.List.{get_or-set_other, append-nil, length-map, length-take-le, take-append-drop, take_at, drop_at, nil_from_length}
use Rattle.std.proofs.lemmas.Bool.{le-leb, cond-true}
use Rattle.std.specs.Option.{option_map}
use Rattle.std.proofs.lemmas.Grind.{get_or-set_at}
use Rattle.std.specs.Simd.{first_chunks}
use Rattle.std.specs.List.{AllByRecursion}
use Rattle.word.specs.declared.sign.Sign.TheVariants.{Plus}
use Rattle.word.specs.declared.word.Word.{Word}
use Rattle.word.specs.Word.{word_from, bytes_of}
use Rattle.word.proofs.Same.{length_five, from_bytes_of, bytes_of_from}
use Rattle.card.specs.Table.{character_of}
use Rattle.card.specs.Text.{both, text_codes, text_word, word_text, text_words, words_text, padded, all_coded, card_of, Plain}
use Rattle.card.proofs.Codes.{coded, codes_again, some_both, some_mapped, some_codes, coded_append}

-- five characters come back from their word
pub word_back : (bs : List ℕ) (w : Word) → length bs ≡ 5 → text_word bs ≡ Some w → word_text w ≡ bs
word_back bs w n e = at (text_codes bs) refl e
  where
    at : (o : Option (List ℕ)) → text_codes bs ≡ o → option_map (word_from Plus) o ≡ Some w → word_text w ≡ bs
    at None p g = let z : ◌≡◌ {A = ℕ} 0 1 = cc in absurd (omega arith)
    at (Some cs) p g =
        let f : word_from Plus cs ≡ w = cc in
        let r = coded bs cs p in
        sym (ap word_text f) ∙ ap (map character_of) (bytes_of_from Plus cs (r.long ∙ n) r.bytes) ∙ r.text

-- a plain word comes back from its characters
word_again : (w : Word) → Plain w → text_word (word_text w) ≡ Some w
word_again w p =
    ap (option_map (word_from Plus)) (codes_again (bytes_of w) p.bytes)
    ∙ ap Some (sym (ap (λ s. word_from s (bytes_of w)) p.plus) ∙ from_bytes_of w)

length_text : (w : Word) → length (word_text w) ≡ 5
length_text w = length-map (bytes_of w) character_of ∙ length_five w.magnitude

pub length_texts : (ws : List Word) → length (words_text ws) ≡ 5 * length ws
length_texts [] = refl
length_texts (w ∷ ws) = length-append (word_text w) (words_text ws) ∙ (let e = length_text w in let f = length_texts ws in omega arith)

-- the words of a text are those of its fives
pub words_read : (n : ℕ) (bs : List ℕ) (ws : List Word) → length ws ≡ n → ((i : ℕ) → i < n → text_word (get_or (first_chunks 5 n bs) i []) ≡ Some (get_or ws i (word_from Plus []))) → text_words n bs ≡ Some ws
unfolding text_words
words_read zero bs ws l h = ap Some (sym (nil_from_length ws l))
words_read (suc n) bs [] l h = absurd (omega arith)
words_read (suc n) bs (w ∷ ws) l h = ap (λ (o : Option Word). both o (text_words n (drop 5 bs))) (h 0 (omega arith)) ∙ ap (both (Some w)) (words_read n (drop 5 bs) ws (omega arith) (λ i k. h (suc i) (omega arith)))

-- and there are none where one of the fives has no word
pub words_none : (n : ℕ) (bs : List ℕ) (i : ℕ) → i < n → text_word (get_or (first_chunks 5 n bs) i []) ≡ None → text_words n bs ≡ None
unfolding text_words
words_none zero bs i l h = absurd (omega arith)
words_none (suc n) bs zero l h = ap (λ (o : Option Word). both o (text_words n (drop 5 bs))) h
words_none (suc n) bs (suc i) l h = ap (both (text_word (take 5 bs))) (words_none n (drop 5 bs) i (omega arith) h) ∙ at (text_word (take 5 bs))
  where
    at : (o : Option Word) → both o None ≡ None
    at None = refl
    at (Some w) = refl

-- each of the fives before place i has its word
abbrev pub Worded : List (List ℕ) → List Word → ℕ → Type 0
Worded fs ws i = (j : ℕ) → j < i → text_word (get_or fs j []) ≡ Some (get_or ws j (word_from Plus []))

-- one word more is written
pub one_more : (fs : List (List ℕ)) (ws : List Word) (i : ℕ) (w : Word) → i < length ws → Some w ≡ text_word (get_or fs i []) → Worded fs ws i → Worded fs (set ws i w) (i + 1)
one_more fs ws i w l e h j k = grind (arith, h j, get_or-set_at ws i j w (word_from Plus []), get_or-set_other ws i j w (word_from Plus []))

-- a text comes back from its words
pub words_back : (n : ℕ) (bs : List ℕ) (ws : List Word) → length bs ≡ 5 * n → text_words n bs ≡ Some ws → words_text ws ≡ bs
unfolding text_words
words_back zero bs ws n e = let f : [] ≡ ws = cc in sym (ap words_text f) ∙ sym (nil_from_length bs n)
words_back (suc n) bs ws l e = at (text_word (take 5 bs)) (text_words n (drop 5 bs)) refl refl e (words_back n (drop 5 bs))
  where
    at : (o : Option Word) (r : Option (List Word)) → text_word (take 5 bs) ≡ o → text_words n (drop 5 bs) ≡ r → both o r ≡ Some ws → ((vs : List Word) → length (drop 5 bs) ≡ 5 * n → text_words n (drop 5 bs) ≡ Some vs → words_text vs ≡ drop 5 bs) → words_text ws ≡ bs
    at None r p q g rec = let z : ◌≡◌ {A = ℕ} 0 1 = cc in absurd (omega arith)
    at (Some w) None p q g rec = let z : ◌≡◌ {A = ℕ} 0 1 = cc in absurd (omega arith)
    at (Some w) (Some vs) p q g rec =
        let f : w ∷ vs ≡ ws = cc in
        sym (ap words_text f)
        ∙ ap (λ (t : List ℕ). t ++ words_text vs) (word_back (take 5 bs) w (length-take-le 5 bs (omega arith)) p)
        ∙ ap (λ (t : List ℕ). take 5 bs ++ t) (rec vs (length-drop 5 bs ∙ omega arith) q)
        ∙ take-append-drop 5 bs

-- plain words come back from their text
words_again : (ws : List Word) → AllByRecursion Plain ws → text_words (length ws) (words_text ws) ≡ Some ws
unfolding text_words
words_again [] h = refl
words_again (w ∷ ws) h =
    ap (λ (t : List ℕ). both (text_word t) (text_words (length ws) (drop 5 (word_text w ++ words_text ws)))) (take_at (word_text w) (words_text ws) 5 (length_text w))
    ∙ ap (λ (t : List ℕ). both (text_word (word_text w)) (text_words (length ws) t)) (drop_at (word_text w) (words_text ws) 5 (length_text w))
    ∙ ap (λ (o : Option Word). both o (text_words (length ws) (words_text ws))) (word_again w h.0)
    ∙ ap (both (Some w)) (words_again ws h.1)

-- a card's text of 80 columns is padded with nothing
padded_full : (bs : List ℕ) → length bs ≡ 80 → padded bs ≡ bs
unfolding padded
padded_full bs n = ap (λ (k : ℕ). bs ++ replicate k 32) (let e : 80 - length bs ≡ 0 = omega arith in e) ∙ append-nil bs

-- sixteen plain words come back from their card
pub card_again : (ws : List Word) → length ws ≡ 16 → AllByRecursion Plain ws → card_of (words_text ws) ≡ Some ws
card_again ws n h =
    let l : length (words_text ws) ≡ 80 = omega (arith, length_texts ws) in
    cond-true (leb (length (words_text ws)) 80) (text_words 16 (padded (words_text ws))) None (le-leb (length (words_text ws)) 80 (omega arith))
    ∙ ap (text_words 16) (padded_full (words_text ws) l)
    ∙ ap (λ (k : ℕ). text_words k (words_text ws)) (sym n)
    ∙ words_again ws h

-- a text is read where each of its bytes has a code
pub some_words : (n : ℕ) (bs : List ℕ) → length bs ≡ 5 * n → is_some (text_words n bs) ≡ all_coded bs
unfolding text_words
some_words zero bs l = sym (ap all_coded (nil_from_length bs l))
some_words (suc n) bs l =
    some_both (text_word (take 5 bs)) (text_words n (drop 5 bs))
    ∙ ap (λ (t : Bool). t && is_some (text_words n (drop 5 bs))) (some_mapped (word_from Plus) (text_codes (take 5 bs)) ∙ some_codes (take 5 bs))
    ∙ ap (λ (t : Bool). all_coded (take 5 bs) && t) (some_words n (drop 5 bs) (length-drop 5 bs ∙ omega arith))
    ∙ sym (coded_append (take 5 bs) (drop 5 bs))
    ∙ ap all_coded (take-append-drop 5 bs)
