-- Words as indices.
use Rattle.std.proofs.Common.{◌≡◌, ◌<◌, ◌≤◌, Ok, Err, Result, MatchResult, IfOk, ◌∙◌, arith}
use mathlib.Core.HLevel.{is_prop→PathP}
use native.Mathlib.Bridge.{le_prop}
use Rattle.word.specs.declared.index.BeyondIndex.{BeyondIndex}
use Rattle.word.specs.declared.index.Index.{Index}
use Rattle.word.specs.declared.word.Word.{Word}
use Rattle.cpu.specs.Registers.{index_of}

-- two indices of the same sign and magnitude are the same
index_same : (i j : Index) → i.sign ≡ j.sign → i.magnitude ≡ j.magnitude → i ≡ j
index_same i j s m = λ k. record {
  sign = s k;
  magnitude = m k;
  small = is_prop→PathP (λ l. m l ≤ 4095) (λ l. le_prop {n = m l} {m = 4095}) i.small j.small k;
}

-- the index of a word that fits
pub index_at : (w : Word) (i : Index) → i.sign ≡ w.sign → i.magnitude ≡ w.magnitude → i ≡ index_of w
unfolding index_of
index_at w i s m = let small = i.small in index_same i (index_of w) s (m ∙ omega arith)

-- what is found for a word is its index
pub index_found : (w : Word) (r : Result Index BeyondIndex) → MatchResult r (λ i. (i.sign ≡ w.sign) × (i.magnitude ≡ w.magnitude)) (λ _. 4095 < w.magnitude) → IfOk r (λ i. i ≡ index_of w)
index_found w (Ok i) h = index_at w i h.0 h.1
index_found w (Err e) h = tt
