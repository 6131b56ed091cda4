-- The words that set times in the second room.
use Rattle.std.specs.Prelude.{ℕ, suc, ◌+◌, ◌*◌, ◌-◌, cond, ◌&&◌, List, [], ◌∷◌, length, take, drop, slice_index_or, slice_set, Some, None, Ok, Err, Option, Result, ◌==◌, nat_le}
use Rattle.card.specs.Lines.{up_to}
use Rattle.job_rack.specs.Settings.{is_job_unit}
use Rattle.room_jobs.specs.declared.arguments.Wrong.{Wrong}
use Rattle.room_jobs.specs.declared.arguments.Wrong.TheVariants.{NoSetting, NoUnit, NoTime, SetBefore}

-- the number that digits write after those of n, while it is at most 65,535; none where a byte is no digit
abbrev pub decimal_after : ℕ → List ℕ → Option ℕ
decimal_after n [] = Some n
decimal_after n (b ∷ bs) =
    let m = 10 * n + (b - 48) in
    cond (nat_le 48 b && nat_le b 57 && nat_le m 65535) (decimal_after m bs) None

-- the number of a text of digits; the empty text has none
abbrev pub decimal_of : List ℕ → Option ℕ
decimal_of [] = None
decimal_of (b ∷ bs) = decimal_after 0 (b ∷ bs)

-- the times that are set, after a unit's is set that had none
abbrev pub set_once : List (Option ℕ) → ℕ → ℕ → Option ℕ → Result (List (Option ℕ)) Wrong
set_once s u t None = Ok (slice_set s u (Some t))
set_once s u t (Some old) = Err SetBefore

abbrev pub set_in : List (Option ℕ) → ℕ → ℕ → Result (List (Option ℕ)) Wrong
set_in s u t = cond (is_job_unit u) (set_once s u t (slice_index_or s u None)) (Err NoUnit)

-- a unit and a time, where they are decimals
abbrev pub set_by : List (Option ℕ) → Option ℕ → Option ℕ → Result (List (Option ℕ)) Wrong
set_by s None t = Err NoUnit
set_by s (Some u) None = Err NoTime
set_by s (Some u) (Some t) = set_in s u t

-- a word is UNIT=TIME
abbrev pub word_read : List (Option ℕ) → List ℕ → Result (List (Option ℕ)) Wrong
word_read s w =
    let end = up_to 61 w in
    cond (end == length w) (Err NoSetting) (set_by s (decimal_of (take end w)) (decimal_of (drop (suc end) w)))

-- words are read one after the other, up to the first that is wrong
abbrev pub read_on : List ℕ → (List (Option ℕ) → Result (List (Option ℕ)) (List ℕ × Wrong)) → Result (List (Option ℕ)) Wrong → Result (List (Option ℕ)) (List ℕ × Wrong)
read_on w rest (Ok s) = rest s
read_on w rest (Err k) = Err (w, k)

abbrev pub words_read : List (Option ℕ) → List (List ℕ) → Result (List (Option ℕ)) (List ℕ × Wrong)
words_read s [] = Ok s
words_read s (w ∷ ws) = read_on w (λ r. words_read r ws) (word_read s w)
