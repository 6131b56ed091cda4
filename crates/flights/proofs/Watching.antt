-- Areas that are touched, and the first unit of which a test holds.
use Rattle.std.proofs.Common.{◌≡◌, ℕ, zero, suc, ◌+◌, ◌<◌, Bool, true, false, cond, ◌&&◌, ◌||◌, List, [], ◌∷◌, Some, None, Option, sym, refl, ap, ap₂, ◌∙◌, ◌⊎◌, inl, inr, arith, add-one}
use Rattle.std.proofs.lemmas.Bool.{cases_eq}
use Rattle.std.proofs.lemmas.Bool.Decides.{nat_tests}
use Rattle.std.specs.List.{list_any}
use Rattle.std.specs.Option.{option_map, option_or}
use Rattle.cpu.specs.Executed.{row, locations}
use Rattle.cpu.specs.declared.step.Span.{Span}
use Rattle.flights.specs.Flights.{covers, overlap, takes, puts, unit_at, units}
use Rattle.flights.specs.Kept.{between, outside}
use Rattle.flights.specs.Watch.{Open, mark_for, touch_mark, first_unit, touches_input, writes_output}
use Rattle.flights.specs.declared.flight.Flight.{Flight}
use Rattle.flights.specs.declared.mark.MarkKind.TheVariants.{InputTouched, OutputWritten}

-- the first unit of which a test holds
pub first_more : (n : ℕ) (f : ℕ → Bool) → first_unit (n + 1) f ≡ option_or (first_unit n f) (cond (f n) (Some n) None)
unfolding first_unit
first_more n f = rw add-one

pub none_yet : (f : ℕ → Bool) → first_unit 0 f ≡ None
unfolding first_unit
none_yet f = refl

pub none_more : (n : ℕ) (f : ℕ → Bool) → first_unit n f ≡ None → f n ≡ false → first_unit (n + 1) f ≡ None
none_more n f h e = first_more n f ∙ rw (h, e)

pub first_found : (n u : ℕ) (f : ℕ → Bool) → u < n → first_unit u f ≡ None → f u ≡ true → first_unit n f ≡ Some u
unfolding first_unit
first_found zero u f l h e = absurd (omega arith)
first_found (suc n) u f l h e = go (cases_eq u n) (λ k. first_found n u f k h e)
  where
    go : (u ≡ n) ⊎ (u ≡ n → ⊥) → (u < n → first_unit n f ≡ Some u) → option_or (first_unit n f) (cond (f n) (Some n) None) ≡ Some u
    go (inl i) below = let h′ : first_unit n f ≡ None = rw (← i) h in let e′ : f n ≡ true = rw (← i) e in rw (h′, e′) (ap (λ k. Some k) (sym i))
    go (inr i) below = let k = below (omega arith) in rw k

pub first_none : (n : ℕ) (f : ℕ → Bool) → ((u : ℕ) → f u ≡ false) → first_unit n f ≡ None
unfolding first_unit
first_none zero f h = refl
first_none (suc n) f h = let k = first_none n f h in rw (k, h n)

-- locations in a row lie in an area where the row and the area have one in common
row_covers : (a : Span) (s n : ℕ) → (covers a s || overlap a (record { start = suc s; count = n })) ≡ overlap a (record { start = s; count = suc n })
unfolding covers overlap
row_covers a s n = grind (arith, nat_tests)

pub row_touches : (b : Bool) (a : Span) (s n : ℕ) → list_any (λ l. b && covers a l) (row s n) ≡ (b && overlap a (record { start = s; count = n }))
unfolding overlap
row_touches b a s zero = elim b as (λ b. false ≡ (b && overlap a (record { start = s; count = 0 }))) [ true ↦ grind (arith, nat_tests) | false ↦ refl ]
row_touches b a s (suc n) = ap (λ z. (b && covers a s) || z) (row_touches b a (suc s) n) ∙ go b
  where
    go : (b : Bool) → ((b && covers a s) || (b && overlap a (record { start = suc s; count = n }))) ≡ (b && overlap a (record { start = s; count = suc n }))
    go true = row_covers a s n
    go false = refl

pub input_touched : (x : Flight) (l : ℕ) (r w : Span)
    → touches_input (l ∷ locations r) (locations w) (Some x) ≡ (takes x.transfer && (covers x.area l || overlap x.area r || overlap x.area w))
input_touched x l r w =
    ap₂ (λ a b. ((takes x.transfer && covers x.area l) || a) || b) (row_touches (takes x.transfer) x.area r.start r.count) (row_touches (takes x.transfer) x.area w.start w.count)
    ∙ go (takes x.transfer)
  where
    go : (b : Bool) → (((b && covers x.area l) || (b && overlap x.area r)) || (b && overlap x.area w)) ≡ (b && (covers x.area l || overlap x.area r || overlap x.area w))
    go true = refl
    go false = refl

pub output_written : (x : Flight) (w : Span) → writes_output (locations w) (Some x) ≡ (puts x.transfer && overlap x.area w)
output_written x w = row_touches (puts x.transfer) x.area w.start w.count

-- of a unit that is not open nothing is touched
nowhere : (ls : List ℕ) → list_any (λ l. false) ls ≡ false
nowhere [] = refl
nowhere (l ∷ ls) = nowhere ls

pub untouched : (rs ws : List ℕ) → touches_input rs ws None ≡ false
untouched rs ws = ap₂ ◌||◌ (nowhere rs) (nowhere ws)

pub unwritten : (ws : List ℕ) → writes_output ws None ≡ false
unwritten ws = nowhere ws

-- the unit that a search finds, and none where it finds none
pub found_at : (f : ℕ → Bool) (n u : ℕ) → u < n → first_unit u f ≡ None → f u ≡ true → Some (unit_at u) ≡ option_map unit_at (first_unit n f)
found_at f n u l h e = ap (option_map unit_at) (sym (first_found n u f l h e))

pub none_found : (f : ℕ → Bool) (n u : ℕ) → n ≡ u → first_unit u f ≡ None → None ≡ option_map unit_at (first_unit n f)
none_found f n u i h = ap (option_map unit_at) (sym (ap (λ k. first_unit k f) i ∙ h))

-- what lies outside the part of memory in which areas are open meets none of them
pub apart : (low high : ℕ) (x : Flight) (s : Span) → outside low high s ≡ true → between low high (Some x) ≡ true → overlap x.area s ≡ false
unfolding overlap
apart low high x s h o = grind (arith, nat_tests)

-- where that part is empty everything lies outside
pub shut : (low high : ℕ) (s : Span) → high ≡ 0 → outside low high s ≡ true
shut low high s e = grind (arith, nat_tests)

uncovered : (low high l : ℕ) (x : Flight) → outside low high (record { start = l; count = 1 }) ≡ true → between low high (Some x) ≡ true → covers x.area l ≡ false
unfolding covers
uncovered low high l x h o = grind (arith, nat_tests)

never : (b : Bool) → (b && false) ≡ false
never true = refl
never false = refl

module _ (low high l : ℕ) (r w : Span) (fetch : outside low high (record { start = l; count = 1 }) ≡ true) (read : outside low high r ≡ true) (write : outside low high w ≡ true) where
  not_touched : (o : Option Flight) → between low high o ≡ true → touches_input (l ∷ locations r) (locations w) o ≡ false
  not_touched None h = untouched (l ∷ locations r) (locations w)
  not_touched (Some x) h =
      input_touched x l r w
      ∙ (λ i. takes x.transfer && (uncovered low high l x fetch h i || apart low high x r read h i || apart low high x w write h i))
      ∙ never (takes x.transfer)

  not_written : (o : Option Flight) → between low high o ≡ true → writes_output (locations w) o ≡ false
  not_written None h = unwritten (locations w)
  not_written (Some x) h = output_written x w ∙ ap (λ b. puts x.transfer && b) (apart low high x w write h) ∙ never (puts x.transfer)

  pub no_touch : (o : Open) → ((u : ℕ) → between low high (o u) ≡ true) → None ≡ touch_mark o (l ∷ locations r) (locations w) l
  unfolding touch_mark
  no_touch o h =
      ap₂ (λ a b. option_or (mark_for InputTouched l a) (mark_for OutputWritten l b))
      (sym (first_none units (λ u. touches_input (l ∷ locations r) (locations w) (o u)) (λ u. not_touched (o u) (h u))))
      (sym (first_none units (λ u. writes_output (locations w) (o u)) (λ u. not_written (o u) (h u))))
