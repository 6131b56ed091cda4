-- Transfers that may be issued fit their units.
use Rattle.std.proofs.Common.{◌≡◌, ℕ, ◌+◌, Bool, true, false, cond, leb, nat_le, Some, None, Ok, Err, Option, refl, sym, ap, ◌∙◌, eq-eqb}
use Rattle.std.proofs.lemmas.Bool.{and_from}
use Rattle.cpu.specs.Instructions.{location_of}
use Rattle.cpu.specs.declared.fault.Fault.TheVariants.{Outside}
use Rattle.cpu.specs.declared.step.Span.{Span}
use Rattle.rack.specs.Units.{Holding, block_size, kind_of}
use Rattle.rack.specs.declared.kind.Kind.{Kind}
use Rattle.rack.specs.declared.request.Transfer.{Transfer}
use Rattle.rack.specs.declared.request.Transfer.TheVariants.{Take, Put, Shift}
use Rattle.rack.specs.declared.unit.Unit.{Unit}
use Rattle.word.specs.declared.sign.Sign.TheVariants.{Plus}
use Rattle.word.specs.declared.word.Word.{Word}
use Rattle.word.specs.Word.{word_of}
use Rattle.flights.specs.Issues.{area_at, area_of}
use Rattle.flights.specs.Kept.{fits_unit, words_moved}
use Rattle.flights.specs.Stands.{Present}

pub present_kind : (l : ℕ) (u : Unit) (h : Option Holding) (k : Option Kind) (x : Kind) → Present l u h k (Ok x) → k ≡ Some x
present_kind l u (Some h) (Some k) x p = ap (λ k. Some k) (sym p)
present_kind l u None k x p = absurd p
present_kind l u (Some h) None x p = absurd p

-- an area that was found lies in memory and has the words that were asked for
area_found : (n : ℕ) (m : Word) (l : Option ℕ) (a : Span) → Ok a ≡ area_at n m l → (leb (a.start + a.count) 4000 ≡ true) × (a.count ≡ n)
area_found n m None a e = absurd (cc e)
area_found n m (Some l) a e = go (nat_le (l + n) 4000) refl e
  where
    go : (b : Bool) → nat_le (l + n) 4000 ≡ b → Ok a ≡ cond b (Ok (record { start = l; count = n })) (Err (Outside (word_of Plus 4000))) → (leb (a.start + a.count) 4000 ≡ true) × (a.count ≡ n)
    go true h e = let i : a ≡ record { start = l; count = n } = cc in (ap (λ s. leb (s.start + s.count) 4000) i ∙ h, ap (λ s. s.count) i)
    go false h e = absurd (cc e)

pub issue_fits : (u : ℕ) (k : Kind) (x : Transfer) (m : Word) (a : Span) (l : ℕ) → kind_of u ≡ Some k → Ok a ≡ area_of k x m → fits_unit u (record { transfer = x; area = a; location = l }) ≡ true
issue_fits u k (Take b) m a l i e =
    let f = area_found (block_size k) m (location_of m) a e in
    and_from _ _ f.0 (eq-eqb a.count _ (f.1 ∙ ap (λ k. words_moved k (Take b)) (sym i)))
issue_fits u k (Put b) m a l i e =
    let f = area_found (block_size k) m (location_of m) a e in
    and_from _ _ f.0 (eq-eqb a.count _ (f.1 ∙ ap (λ k. words_moved k (Put b)) (sym i)))
issue_fits u k (Shift b) m a l i e =
    let f : a ≡ record { start = 0; count = 0 } = cc in
    and_from _ _ (ap (λ (s : Span). leb (s.start + s.count) 4000) f) (eq-eqb a.count _ (ap (λ (s : Span). s.count) f ∙ ap (λ k. words_moved k (Shift b)) (sym i)))
