-- Blocks that fill areas of memory, and words that areas give.
use Rattle.std.proofs.Common.{◌≡◌, ℕ, zero, suc, ◌+◌, ◌-◌, ◌<◌, ◌≤◌, true, false, cond, ◌&&◌, leb, ltb, List, [], ◌∷◌, ◌++◌, length, take, drop, get_or, slice_get, Some, None, Ok, Err, Option, IfSome, IfOk, sym, refl, ap, ◌∙◌, inl, inr, arith, add-one, length-take, length-drop, take-append-drop}
use Rattle.std.proofs.Math.Path.{fun_ext}
use Rattle.std.proofs.lemmas.Bool.{cases_lt, cond-true, cond-false}
use Rattle.std.proofs.lemmas.Bool.Decides.{nat_tests}
use Rattle.std.proofs.lemmas.List.{get_or_append_left, get_or-append_right, get_or-take, get_or-drop, drop_more}
use Rattle.std.specs.List.{AllByRecursion}
use Rattle.cpu.specs.Executed.{cells}
use Rattle.cpu.specs.Programs.{Memory}
use Rattle.rack.specs.Transfers.{Answer, filled, received, read_block, on_kind, take_from, take_on}
use Rattle.rack.specs.Units.{Holding, SoundIf, kind_of}
use Rattle.rack.specs.declared.kind.Kind.{Kind}
use Rattle.rack.specs.declared.kind.Kind.TheVariants.{Tape, Disk, Reader, Punch, Printer}
use Rattle.rack.specs.declared.request.Transfer.TheVariants.{Take}
use Rattle.rack.specs.declared.unit.Unit.{Unit}
use Rattle.word.specs.declared.sign.Sign.TheVariants.{Plus}
use Rattle.word.specs.declared.word.Word.{Word}
use Rattle.word.specs.Word.{word_of}
use Rattle.flights.specs.Flights.{covers, delivered, given, puts, takes, words_at}
use Rattle.flights.specs.Kept.{words_moved}
use Rattle.flights.specs.Stands.{memory_by}
use Rattle.flights.specs.declared.flight.Flight.{Flight}

-- a block that is read has as many words as its kind says
abbrev Sized : ℕ → Option (List Word) → Type 0
Sized k b = IfSome b (λ ws. length ws ≡ k)

block_at : (k : ℕ) (bs : List (Option (List Word))) → AllByRecursion (Sized k) bs → (p : ℕ) → IfSome (slice_get bs p) (Sized k)
block_at k [] h p = tt
block_at k (b ∷ bs) h zero = h.0
block_at k (b ∷ bs) h (suc p) = block_at k bs h.1 p

read_sized : (k : ℕ) (u : Unit) (p : ℕ) (h : Holding) (o : Option (Option (List Word))) → IfSome o (Sized k) → IfOk (read_block u p h o) (λ e. length e.block ≡ k)
read_sized k u p h None s = tt
read_sized k u p h (Some None) s = tt
read_sized k u p h (Some (Some ws)) s = s

kind_sized : (u : Unit) (a : ℕ) (h : Holding) (k : Option Kind) → SoundIf k (Some h) → IfOk (on_kind u (take_on u a) h k) (λ e. length e.block ≡ words_moved k (Take a))
kind_sized u a h None s = tt
kind_sized u a h (Some Tape) s = read_sized 100 u h.position _ (slice_get h.blocks h.position) (block_at 100 h.blocks s.words h.position)
kind_sized u a h (Some Disk) s = read_sized 100 u a h (slice_get h.blocks a) (block_at 100 h.blocks s.words a)
kind_sized u a h (Some Reader) s = read_sized 16 u h.position _ (slice_get h.blocks h.position) (block_at 16 h.blocks s.words h.position)
kind_sized u a h (Some Punch) s = tt
kind_sized u a h (Some Printer) s = tt

pub taken_sized : (u : Unit) (a : ℕ) (h : Option Holding) → SoundIf (kind_of u.number) h → IfOk (take_from u a h) (λ e. length e.block ≡ words_moved (kind_of u.number) (Take a))
unfolding take_from
taken_sized u a None s = tt
taken_sized u a (Some h) s = kind_sized u a h (kind_of u.number) s

-- a block of an area's length fills it
filled_whole : (xs ws : List Word) → length ws ≡ length xs → filled xs ws ≡ ws
filled_whole [] [] h = refl
filled_whole [] (w ∷ ws) h = absurd (omega arith)
filled_whole (x ∷ xs) [] h = absurd (omega arith)
filled_whole (x ∷ xs) (w ∷ ws) h = ap (λ zs. w ∷ zs) (filled_whole xs ws (omega arith))

-- memory in which a part was written
module _ (ws ys : List Word) (s n : ℕ) (l : ℕ) (d : Word) where
  before : s ≤ length ws → l < s → get_or (take s ws ++ (ys ++ drop n (drop s ws))) l d ≡ get_or ws l d
  before h k =
      let e : length (take s ws) ≡ s = simp length-take (omega arith) in
      get_or_append_left (take s ws) (ys ++ drop n (drop s ws)) d l (omega arith) ∙ get_or-take s ws l d k

  after_front : s ≤ length ws → s ≤ l → get_or (take s ws ++ (ys ++ drop n (drop s ws))) l d ≡ get_or (ys ++ drop n (drop s ws)) (l - s) d
  after_front h k =
      let e : length (take s ws) ≡ s = simp length-take (omega arith) in
      get_or-append_right (take s ws) (ys ++ drop n (drop s ws)) s l d e k

  inside : s ≤ length ws → length ys ≡ n → s ≤ l → l < s + n → get_or (take s ws ++ (ys ++ drop n (drop s ws))) l d ≡ get_or ys (l - s) d
  inside h e k m = after_front h k ∙ get_or_append_left ys (drop n (drop s ws)) d (l - s) (omega arith)

  behind : s ≤ length ws → length ys ≡ n → s + n ≤ l → get_or (take s ws ++ (ys ++ drop n (drop s ws))) l d ≡ get_or ws l d
  behind h e k =
      let i : s + (n + (l - s - n)) ≡ l = omega arith in
      after_front h (omega arith) ∙ get_or-append_right ys (drop n (drop s ws)) n (l - s) d e (omega arith)
      ∙ get_or-drop n (drop s ws) (l - s - n) d ∙ get_or-drop s ws (n + (l - s - n)) d ∙ ap (λ j. get_or ws j d) i

  placed : s ≤ length ws → length ys ≡ n → get_or (take s ws ++ (ys ++ drop n (drop s ws))) l d ≡ cond (leb s l && ltb l (s + n)) (get_or ys (l - s) d) (get_or ws l d)
  placed h e = elim (cases_lt l s) [
    | inl k ↦ before h k ∙ sym (cond-false (leb s l && ltb l (s + n)) _ _ (grind (arith, nat_tests)))
    | inr k ↦ elim (cases_lt l (s + n)) [
      | inl m ↦ inside h e k m ∙ sym (cond-true (leb s l && ltb l (s + n)) _ _ (grind (arith, nat_tests)))
      | inr m ↦ behind h e m ∙ sym (cond-false (leb s l && ltb l (s + n)) _ _ (grind (arith, nat_tests)))
    ]
  ]

-- a part that is written as it was leaves memory as it was
same_part : (ws : List Word) (s n : ℕ) → take s ws ++ (take n (drop s ws) ++ drop n (drop s ws)) ≡ ws
same_part ws s n = ap (λ xs. take s ws ++ xs) (take-append-drop n (drop s ws)) ∙ take-append-drop s ws

-- memory after a block was read into a part of it
module _ (ws : List Word) (x : Flight) (s n : ℕ) (start : s ≡ x.area.start) (count : n ≡ x.area.count) (within : s + n ≤ length ws) where
  part : length (take n (drop s ws)) ≡ n
  part = simp (length-take, length-drop) (omega arith)

  pub took : (a : Answer) → takes x.transfer ≡ true → IfOk a (λ e. length e.block ≡ n) → (ys : List Word) → ys ≡ received a (take n (drop s ws))
      → cells (take s ws ++ (ys ++ drop n (drop s ws))) ≡ memory_by a x (cells ws)
  unfolding cells delivered covers
  took (Ok e) t sized ys is =
      let d = word_of Plus 0 in
      let whole : ys ≡ e.block = is ∙ filled_whole (take n (drop s ws)) e.block (sized ∙ sym part) in
      ap (λ zs. (λ l. get_or (take s ws ++ (zs ++ drop n (drop s ws))) l d)) whole
      ∙ fun_ext (λ l. placed ws e.block s n l d (omega arith) sized ∙ (λ i. cond (sym t i && (leb (start i) l && ltb l (start i + count i))) (get_or e.block (l - start i) d) (get_or ws l d)))
  took (Err f) t sized ys is = ap (λ zs. (λ l. get_or (take s ws ++ (zs ++ drop n (drop s ws))) l (word_of Plus 0))) is ∙ ap (λ zs. (λ l. get_or zs l (word_of Plus 0))) (same_part ws s n)

  -- the words of an area
  area_words : (k i : ℕ) → i + k ≤ length ws → words_at (cells ws) i k ≡ take k (drop i ws)
  unfolding words_at cells
  area_words zero i h = refl
  area_words (suc k) i h =
      let r = area_words k (suc i) (omega arith) in
      let d = drop_more ws i (word_of Plus 0) (omega arith) in
      rw (d, add-one) (ap (λ zs. get_or ws i (word_of Plus 0) ∷ zs) r)

  pub gave : puts x.transfer ≡ true → given x (cells ws) ≡ take n (drop s ws)
  unfolding given
  gave t = (λ i. cond (t i) (words_at (cells ws) (sym start i) (sym count i)) []) ∙ area_words n s within

-- a transfer that is no Take leaves memory as it was
pub untaken : (a : Answer) (x : Flight) (m : Memory) → takes x.transfer ≡ false → m ≡ memory_by a x m
unfolding delivered
untaken (Ok e) x m t = fun_ext (λ l. rw t refl)
untaken (Err f) x m t = refl
