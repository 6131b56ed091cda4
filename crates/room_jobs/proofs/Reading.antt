-- Words that set times.
use Rattle.std.proofs.Common.{◌≡◌, ◌≢◌, ℕ, suc, ◌+◌, ◌≤◌, Bool, true, false, ◌||◌, eqb, List, length, take, drop, slice_index_or, slice_set, Some, None, Ok, Err, Option, IsSome, refl, sym, ap, ◌∙◌, arith}
use Rattle.std.proofs.lemmas.Bool.{cond-true, cond-false, ne_eqb}
use Rattle.card.specs.Lines.{up_to}
use Rattle.job_rack.specs.Settings.{is_job_unit}
use Rattle.room_jobs.specs.Arguments.{decimal_of, set_by, set_in, set_once, word_read}
use Rattle.room_jobs.specs.declared.arguments.Wrong.TheVariants.{NoSetting, NoUnit, SetBefore}

-- a unit's time, by what was set before
pub set_ok : (s : List (Option ℕ)) (u t : ℕ) → is_job_unit u ≡ true → slice_index_or s u None ≡ None → set_in s u t ≡ Ok (slice_set s u (Some t))
set_ok s u t h e = cond-true (is_job_unit u) (set_once s u t (slice_index_or s u None)) (Err NoUnit) h ∙ ap (set_once s u t) e

pub set_no_unit : (s : List (Option ℕ)) (u t : ℕ) → is_job_unit u ≡ false → set_in s u t ≡ Err NoUnit
set_no_unit s u t h = cond-false (is_job_unit u) (set_once s u t (slice_index_or s u None)) (Err NoUnit) h

pub set_before : (s : List (Option ℕ)) (u t : ℕ) → is_job_unit u ≡ true → IsSome (slice_index_or s u None) → set_in s u t ≡ Err SetBefore
set_before s u t h e = cond-true (is_job_unit u) (set_once s u t (slice_index_or s u None)) (Err NoUnit) h ∙ at (slice_index_or s u None) e
  where
    at : (o : Option ℕ) → IsSome o → set_once s u t o ≡ Err SetBefore
    at None k = cc
    at (Some x) k = refl

none_of : (a b : Bool) → a ≡ false → b ≡ false → (a || b) ≡ false
none_of false b p q = q
none_of true b p q = cc

pub far : (u : ℕ) → 256 ≤ u → is_job_unit u ≡ false
far u h =
    none_of _ _ (none_of _ _ (none_of _ _ (none_of _ _ (none_of _ _
    (ne_eqb u 0 (λ e. omega arith)) (ne_eqb u 1 (λ e. omega arith))) (ne_eqb u 8 (λ e. omega arith)))
    (ne_eqb u 16 (λ e. omega arith))) (ne_eqb u 17 (λ e. omega arith))) (ne_eqb u 18 (λ e. omega arith))

-- a word with = in it
pub word_set : (s : List (Option ℕ)) (w : List ℕ) (end : ℕ) (u t : Option ℕ) → end ≡ up_to 61 w → end ≢ length w → u ≡ decimal_of (take end w) → t ≡ decimal_of (drop (end + 1) w) → word_read s w ≡ set_by s u t
word_set s w end u t e h p q =
    let d : suc end ≡ end + 1 = omega arith in
    cond-false (eqb (up_to 61 w) (length w)) (Err NoSetting) (set_by s (decimal_of (take (up_to 61 w) w)) (decimal_of (drop (suc (up_to 61 w)) w))) (ne_eqb (up_to 61 w) (length w) (λ f. h (e ∙ f)))
    ∙ ap (λ (n : ℕ). set_by s (decimal_of (take n w)) (decimal_of (drop (suc n) w))) (sym e)
    ∙ ap (λ (n : ℕ). set_by s (decimal_of (take end w)) (decimal_of (drop n w))) d
    ∙ ap (λ (o : Option ℕ). set_by s o (decimal_of (drop (end + 1) w))) (sym p)
    ∙ ap (set_by s u) (sym q)
