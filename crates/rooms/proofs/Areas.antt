-- Areas of transfers, and units of which nothing holds.
use Rattle.std.proofs.Common.{◌≡◌, ℕ, zero, suc, ◌+◌, ◌-◌, ◌<◌, ◌≤◌, Bool, true, false, cond, ◌&&◌, ◌⊎◌, inl, inr, List, [], ◌∷◌, get_or, Option, Some, None, refl, ap, ap₂, ◌∙◌, arith}
use Rattle.std.proofs.lemmas.Bool.{cases_eq, and_parts, and_from, cond-true, cond-false}
use Rattle.std.proofs.lemmas.Bool.Decides.{nat_tests}
use Rattle.cpu.specs.Programs.{Memory}
use Rattle.cpu.specs.declared.step.Span.{Span}
use Rattle.flights.specs.Flights.{takes, puts, covers, overlap, words_at, given, delivered}
use Rattle.std.specs.Option.{option_or}
use Rattle.flights.specs.Watch.{first_unit, mark_for, in_input, in_output}
use Rattle.flights.specs.declared.flight.Flight.{Flight}
use Rattle.flights.specs.declared.mark.MarkKind.{MarkKind}
use Rattle.rack.specs.declared.request.Transfer.{Transfer}
use Rattle.rack.specs.declared.request.Transfer.TheVariants.{Take, Put, Shift}
use Rattle.word.specs.declared.sign.Sign.TheVariants.{Plus}
use Rattle.word.specs.declared.word.Word.{Word}
use Rattle.word.specs.Word.{word_of}

-- neither of two there is none
pub neither : {A : Type 0} (x y : Option A) → option_or x y ≡ None → (x ≡ None) × (y ≡ None)
neither (Some x) y h = cc
neither None y h = (refl, h)

pub no_mark : (k : MarkKind) (l : ℕ) (u : Option ℕ) → mark_for k l u ≡ None → u ≡ None
no_mark k l None h = refl
no_mark k l (Some v) h = cc

if_none : (b : Bool) (n : ℕ) → cond b (Some n) None ≡ None → b ≡ false
if_none true n h = cc
if_none false n h = refl

-- a test that finds no unit holds of none
pub none_found : (n : ℕ) (f : ℕ → Bool) → first_unit n f ≡ None → (u : ℕ) → u < n → f u ≡ false
unfolding first_unit
none_found zero f h u l = absurd (omega arith)
none_found (suc n) f h u l =
    let p = neither (first_unit n f) (cond (f n) (Some n) None) h in
    go p.1 (cases_eq u n) (λ k. none_found n f p.0 u k)
  where
    go : cond (f n) (Some n) None ≡ None → (u ≡ n) ⊎ (u ≡ n → ⊥) → (u < n → f u ≡ false) → f u ≡ false
    go p (inl e) below = ap f e ∙ if_none (f n) n p
    go p (inr e) below = below (omega arith)

pub find_none : (n : ℕ) (f : ℕ → Bool) → ((u : ℕ) → f u ≡ false) → first_unit n f ≡ None
unfolding first_unit
find_none zero f h = refl
find_none (suc n) f h = rw (find_none n f h, h n)

-- a location in the area of an open transfer
abbrev pub in_area : ℕ → Option Flight → Bool
in_area l None = false
in_area l (Some x) = covers x.area l

pub in_input-area : (l : ℕ) (o : Option Flight) → in_input l o ≡ true → in_area l o ≡ true
in_input-area l None h = h
in_input-area l (Some x) h = (and_parts (takes x.transfer) (covers x.area l) h).1

pub in_output-area : (l : ℕ) (o : Option Flight) → in_output l o ≡ true → in_area l o ≡ true
in_output-area l None h = h
in_output-area l (Some x) h = (and_parts (puts x.transfer) (covers x.area l) h).1

-- no transfer both fills its area and writes it on its unit
pub one_way : (t : Transfer) → takes t ≡ true → puts t ≡ true → ⊥
one_way (Take a) p q = cc
one_way (Put a) p q = cc
one_way (Shift m) p q = cc

-- two areas that do not overlap have no location in common
pub no_overlap : (s t : Span) (l : ℕ) → overlap s t ≡ false → covers s l ≡ true → covers t l ≡ true → ⊥
unfolding overlap covers
no_overlap s t l h p q = grind (arith, nat_tests)

words_same : (m n : Memory) (l k : ℕ) → ((i : ℕ) → l ≤ i → i < l + k → m i ≡ n i) → words_at m l k ≡ words_at n l k
unfolding words_at
words_same m n l zero h = refl
words_same m n l (suc k) h = ap₂ (λ w ws. w ∷ ws) (h l (omega arith) (omega arith)) (words_same m n (suc l) k (λ i a b. h i (omega arith) (omega arith)))

-- what a transfer gives to its unit hangs on the area of an OUT alone
pub given_same : (x : Flight) (m n : Memory) → ((l : ℕ) → in_output l (Some x) ≡ true → m l ≡ n l) → given x m ≡ given x n
unfolding given covers
given_same x m n h = go (puts x.transfer) refl
  where
    go : (b : Bool) → puts x.transfer ≡ b → cond b (words_at m x.area.start x.area.count) [] ≡ cond b (words_at n x.area.start x.area.count) []
    go true e = words_same m n x.area.start x.area.count (λ l a b. h l (and_from (puts x.transfer) (covers x.area l) e (grind (arith, nat_tests))))
    go false e = refl

-- what a transfer leaves in memory, in the area of an IN and elsewhere
pub delivered_in : (x : Flight) (ws : List Word) (m : Memory) (l : ℕ) → in_input l (Some x) ≡ true → delivered x ws m l ≡ get_or ws (l - x.area.start) (word_of Plus 0)
unfolding delivered
delivered_in x ws m l h = cond-true (takes x.transfer && covers x.area l) _ _ h

pub delivered_out : (x : Flight) (ws : List Word) (m : Memory) (l : ℕ) → in_input l (Some x) ≡ false → delivered x ws m l ≡ m l
unfolding delivered
delivered_out x ws m l h = cond-false (takes x.transfer && covers x.area l) _ _ h
