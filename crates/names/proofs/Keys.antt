-- A name of four bytes is known by its number.
use Rattle.std.proofs.Common.{◌≡◌, ℕ, zero, suc, ◌<◌, List, length, get_or, sym, ◌∙◌, arith, ext_get_or}
use Rattle.names.specs.Order.{key_of, Columns}

pub key_same : (v w : List ℕ) → Columns v → Columns w → key_of v ≡ key_of w → v ≡ w
key_same v w p q e = ext_get_or 0 v w (p.0 ∙ sym q.0) at
  where
    at : (i : ℕ) → i < length v → get_or v i 0 ≡ get_or w i 0
    at zero h = omega arith
    at (suc zero) h = omega arith
    at (suc (suc zero)) h = omega arith
    at (suc (suc (suc zero))) h = omega arith
    at (suc (suc (suc (suc i)))) h = absurd (omega arith)
