-- The dictionary order of codes keeps the laws of an order.
use Rattle.std.specs.Prelude.{◌≡◌, ℕ, true, false, List, [], ◌∷◌, refl}
use Rattle.std.proofs.Common.{◌∙◌, arith}
use Rattle.std.specs.Str.{bytes_eq}
use Rattle.std.proofs.lemmas.Slice.Eq.{bytes_eq-Decides}
use Rattle.std.proofs.lemmas.Bool.{both_ways}
use Rattle.std.proofs.lemmas.Bool.Decides.{nat_tests}
use Rattle.table.specs.Order.{JustOne}
use Rattle.table.specs.Keys.{lex_before}

-- of before, same and after just one holds
pub lex_one : (xs ys : List ℕ) → JustOne (lex_before xs ys) (bytes_eq xs ys) (lex_before ys xs)
lex_one [] [] = tt
lex_one [] (y ∷ ys) = tt
lex_one (x ∷ xs) [] = tt
lex_one (x ∷ xs) (y ∷ ys) = let h = lex_one xs ys in grind (arith, nat_tests)

-- before carries on from list to list
pub lex_on : (xs ys zs : List ℕ) → lex_before xs ys ≡ true → lex_before ys zs ≡ true → lex_before xs zs ≡ true
lex_on [] [] zs h k = k
lex_on [] (y ∷ ys) [] h k = k
lex_on [] (y ∷ ys) (z ∷ zs) h k = refl
lex_on (x ∷ xs) [] zs h k = absurd (both_ways false refl h)
lex_on (x ∷ xs) (y ∷ ys) [] h k = k
lex_on (x ∷ xs) (y ∷ ys) (z ∷ zs) h k = let t = lex_on xs ys zs in grind (arith, nat_tests)

-- and so does same
pub same_stays : (xs ys zs : List ℕ) → bytes_eq xs ys ≡ true → bytes_eq ys zs ≡ true → bytes_eq xs zs ≡ true
same_stays xs ys zs h k = (bytes_eq-Decides xs zs).1 ((bytes_eq-Decides xs ys).0 h ∙ (bytes_eq-Decides ys zs).0 k)
