-- What two memories that agree on what a program reads make of it, and which words it leaves.
use Rattle.std.proofs.Common.{◌≡◌, ℕ, ◌<◌, Bool, true, false, ◌||◌, ◌⊎◌, inl, inr, List, ◌∷◌, Option, None, refl, ap, subst, ◌∙◌}
use Rattle.std.proofs.lemmas.Bool.{both_ways, or_parts}
use Rattle.std.specs.List.{list_any}
use Rattle.cpu.specs.Programs.{Memory, Program, stored, outcome_of, memory_after, reads_of, writes_of, takes_j}
use Rattle.cpu.specs.Programs.Program.{read, write, save, done}
use Rattle.flights.specs.Flights.{units}
use Rattle.flights.specs.Watch.{Open, first_unit, mark_for, in_input, in_output, touches_input, writes_output, touch_mark}
use Rattle.flights.specs.declared.flight.Flight.{Flight}
use Rattle.flights.specs.declared.mark.MarkKind.TheVariants.{InputTouched, OutputWritten}
use Rattle.word.specs.declared.word.Word.{Word}
use Rattle.flights.proofs.Stores.{at_other, at_agree}
use Rattle.rooms.proofs.Areas.{neither, no_mark, none_found}

-- words that are read and written, none of them in an open area of the other kind
pub record Untouched (o : Open) (rs ws : List ℕ) : Type 0 where
  pub input : (u : ℕ) → u < units → touches_input rs ws (o u) ≡ false
  pub output : (u : ℕ) → u < units → writes_output ws (o u) ≡ false

-- no mark of kinds 1 and 2
pub untouched : (o : Open) (rs ws : List ℕ) (l : ℕ) → touch_mark o rs ws l ≡ None → Untouched o rs ws
unfolding touch_mark
untouched o rs ws l h =
    let p = neither (mark_for InputTouched l (first_unit units (λ u. touches_input rs ws (o u)))) (mark_for OutputWritten l (first_unit units (λ u. writes_output ws (o u)))) h in
    record {
      input = none_found units (λ u. touches_input rs ws (o u)) (no_mark InputTouched l _ p.0);
      output = none_found units (λ u. writes_output ws (o u)) (no_mark OutputWritten l _ p.1);
    }

-- a location outside the areas of the open INs
abbrev pub Dry : Open → ℕ → Type 0
Dry o l = (u : ℕ) → u < units → in_input l (o u) ≡ false

read_out : (o : Open) (l : ℕ) (rs ws : List ℕ) → Untouched o (l ∷ rs) ws → Dry o l
read_out o l rs ws h u k = (or_parts (in_input l (o u)) _ (or_parts _ _ (h.input u k)).0).0

read_rest : (o : Open) (l : ℕ) (rs ws : List ℕ) → Untouched o (l ∷ rs) ws → Untouched o rs ws
read_rest o l rs ws h = record {
  input = λ u k. rest (in_input l (o u)) _ _ (h.input u k);
  output = h.output;
}
  where
    rest : (a b c : Bool) → ((a || b) || c) ≡ false → (b || c) ≡ false
    rest true b c p = absurd (both_ways true p refl)
    rest false b c p = p

write_rest : (o : Open) (l : ℕ) (rs ws : List ℕ) → Untouched o rs (l ∷ ws) → Untouched o rs ws
write_rest o l rs ws h = record {
  input = λ u k. rest (list_any (λ i. in_input i (o u)) rs) (in_input l (o u)) _ (h.input u k);
  output = λ u k. (or_parts (in_output l (o u)) _ (h.output u k)).1;
}
  where
    rest : (a b c : Bool) → (a || (b || c)) ≡ false → (a || c) ≡ false
    rest true b c p = p
    rest false b c p = (or_parts b c p).1

-- a location in the area of an open unit's transfer
abbrev pub Wet : Option Flight → ℕ → Type 0
Wet x l = (in_input l x ≡ true) ⊎ (in_output l x ≡ true)

write_out : (o : Open) (l : ℕ) (rs ws : List ℕ) → Untouched o rs (l ∷ ws) → (u : ℕ) → u < units → Wet (o u) l → ⊥
write_out o l rs ws h u k (inl i) = both_ways (in_input l (o u)) (or_parts (in_input l (o u)) _ (or_parts (list_any (λ i. in_input i (o u)) rs) _ (h.input u k)).1).0 i
write_out o l rs ws h u k (inr i) = both_ways (in_output l (o u)) (or_parts (in_output l (o u)) _ (h.output u k)).0 i

-- two programs come to the same, and leave memories that agree where Q holds; j and i are the words of J
pub record Same (Q : ℕ → Type 0) (j i : Word) (p q : Program) (m n : Memory) : Type 0 where
  pub outcome : outcome_of p m ≡ outcome_of q n
  pub reads : reads_of p m ≡ reads_of q n
  pub writes : writes_of p m ≡ writes_of q n
  pub takes : takes_j p m ≡ takes_j q n
  pub memory : (takes_j p m ≡ true → j ≡ i) → (l : ℕ) → Q l → memory_after p j m l ≡ memory_after q i n l

module _ (o : Open) (j i : Word) where
  -- a program that touches no open area comes to the same in memories that agree outside the areas of INs
  pub frame : (Q : ℕ → Type 0) → ((l : ℕ) → Dry o l → Q l) → (p : Program) (m n : Memory) → ((l : ℕ) → Q l → m l ≡ n l) → Untouched o (reads_of p m) (writes_of p m) → Same Q j i p p m n
  unfolding stored
  frame Q dry (read k f) m n agree h =
      let r = frame Q dry (f (m k)) m n agree (read_rest o k _ _ h) in
      let s = subst (λ w. Same Q j i (f (m k)) (f w) m n) (agree k (dry k (read_out o k _ _ h))) r in
      record { outcome = s.outcome; reads = ap (λ ls. k ∷ ls) s.reads; writes = s.writes; takes = s.takes; memory = s.memory }
  frame Q dry (write k w p) m n agree h =
      let r = frame Q dry p (stored m k w) (stored n k w) (λ l q. at_agree m n k w l (agree l q)) (write_rest o k _ _ h) in
      record { outcome = r.outcome; reads = r.reads; writes = ap (λ ls. k ∷ ls) r.writes; takes = r.takes; memory = r.memory }
  frame Q dry (save k f t v) m n agree h = record {
    outcome = refl;
    reads = refl;
    writes = refl;
    takes = refl;
    memory = λ e l q. subst (λ x. stored m k (f j) l ≡ stored n k (f x) l) (e refl) (at_agree m n k (f j) l (agree l q));
  }
  frame Q dry (done z) m n agree h = record { outcome = refl; reads = refl; writes = refl; takes = refl; memory = λ e. agree }

  -- a word in an open area stays
  pub unwritten : (p : Program) (m : Memory) → Untouched o (reads_of p m) (writes_of p m) → (u l : ℕ) → u < units → Wet (o u) l → memory_after p j m l ≡ m l
  unfolding stored
  unwritten (read k f) m h u l b w = unwritten (f (m k)) m (read_rest o k _ _ h) u l b w
  unwritten (write k v p) m h u l b w =
      unwritten p (stored m k v) (write_rest o k _ _ h) u l b w ∙ at_other m k v l (λ e. write_out o k _ _ h u b (subst (Wet (o u)) e w))
  unwritten (save k f t v) m h u l b w = at_other m k (f j) l (λ e. write_out o k _ _ h u b (subst (Wet (o u)) e w))
  unwritten (done z) m h u l b w = refl
