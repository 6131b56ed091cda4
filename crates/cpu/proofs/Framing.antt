-- What a program makes of memories that agree where it reads, and what it leaves alone.
use Rattle.std.proofs.Common.{◌≡◌, ◌≢◌, ℕ, true, eqb, cond, List, [], ◌∷◌, sym, refl, ap, subst, ◌∙◌}
use Rattle.std.specs.List.{AllByRecursion}
use Rattle.std.proofs.lemmas.Bool.{cond-false, cond-true, eq-eqb, ne_eqb}
use Rattle.word.specs.declared.word.Word.{Word}
use Rattle.cpu.specs.Laws.{Agree, Alike}
use Rattle.cpu.specs.Programs.{Memory, Program, memory_after, outcome_of, reads_of, stored, takes_j, writes_of}
use Rattle.cpu.specs.Programs.Program.{read, write, save, done}

-- a word that is stored, at its location and at another

stored_there : (m : Memory) (k : ℕ) (w : Word) → stored m k w k ≡ w
unfolding stored
stored_there m k w = cond-true (eqb k k) w (m k) (eq-eqb k k refl)

stored_elsewhere : (m : Memory) (k : ℕ) (w : Word) (i : ℕ) → k ≢ i → stored m k w i ≡ m i
unfolding stored
stored_elsewhere m k w i n = cond-false (eqb i k) w (m i) (ne_eqb i k (λ e. n (sym e)))

stored_alike : (m m′ : Memory) (k : ℕ) (w : Word) (i : ℕ) → m i ≡ m′ i → stored m k w i ≡ stored m′ k w i
unfolding stored
stored_alike m m′ k w i e = ap (λ x. cond (eqb i k) w x) e

stored_agree : (m m′ : Memory) (k : ℕ) (w : Word) (ks : List ℕ) → Agree ks m m′ → Agree ks (stored m k w) (stored m′ k w)
stored_agree m m′ k w [] h = tt
stored_agree m m′ k w (i ∷ ks) h = (stored_alike m m′ k w i h.0, stored_agree m m′ k w ks h.1)

pub alike : (p : Program) (j j′ : Word) (m m′ : Memory) → Agree (reads_of p m) m m′ → Alike p j j′ m m′
alike (read k f) j j′ m m′ h =
    let r = alike (f (m k)) j j′ m m′ h.1 in
    let P : Word → Type 0 = λ v. (takes_j (f (m k)) m ≡ true → j ≡ j′) → Agree (writes_of (f (m k)) m) (memory_after (f (m k)) j m) (memory_after (f v) j′ m′) in
    record {
      outcome = r.outcome ∙ ap (λ v. outcome_of (f v) m′) h.0;
      reads = ap (λ ks. k ∷ ks) (r.reads ∙ ap (λ v. reads_of (f v) m′) h.0);
      writes = r.writes ∙ ap (λ v. writes_of (f v) m′) h.0;
      takes = r.takes ∙ ap (λ v. takes_j (f v) m′) h.0;
      written = subst P h.0 r.written;
      kept = λ e i g. r.kept e i g ∙ ap (λ v. memory_after (f v) j′ m′ i) h.0;
    }
alike (write k w p) j j′ m m′ h =
    let r = alike p j j′ (stored m k w) (stored m′ k w) (stored_agree m m′ k w _ h) in
    record {
      outcome = r.outcome;
      reads = r.reads;
      writes = ap (λ ks. k ∷ ks) r.writes;
      takes = r.takes;
      written = λ e. (r.kept e k (stored_there m k w ∙ sym (stored_there m′ k w)), r.written e);
      kept = λ e i g. r.kept e i (stored_alike m m′ k w i g);
    }
alike (save k f t w) j j′ m m′ h =
    record {
      outcome = refl;
      reads = refl;
      writes = refl;
      takes = refl;
      written = λ e. (stored_there m k (f j) ∙ ap f (e refl) ∙ sym (stored_there m′ k (f j′)), tt);
      kept = λ e i g. stored_alike m m′ k (f j) i g ∙ ap (λ v. stored m′ k (f v) i) (e refl);
    }
alike (done o) j j′ m m′ h = record { outcome = refl; reads = refl; writes = refl; takes = refl; written = λ e. tt; kept = λ e i g. g }

pub unwritten : (p : Program) (j : Word) (m : Memory) (k : ℕ) → AllByRecursion (λ i. i ≢ k) (writes_of p m) → memory_after p j m k ≡ m k
unwritten (read i f) j m k h = unwritten (f (m i)) j m k h
unwritten (write i w p) j m k h = unwritten p j (stored m i w) k h.1 ∙ stored_elsewhere m i w k h.0
unwritten (save i f t w) j m k h = stored_elsewhere m i (f j) k h.0
unwritten (done o) j m k h = refl
