-- The order of each kind of key, in the words of its tests, and what it is of numbers and of codes.
use Rattle.std.proofs.Common.{◌≡◌, ℕ, ◌<◌, Bool, true, List, refl, sym, ap, ◌∙◌, arith}
use Rattle.std.specs.Bool.{Decides}
use Rattle.std.specs.Cmp.{unsigned_ties}
use Rattle.std.specs.Cmp.Lexicographic.{slice_cmp, lists_ties}
use Rattle.std.specs.Ordering.{is_lt, is_eq, is_gt, nat_cmp}
use Rattle.std.specs.declared.cmp.Ordering.{Ordering}
use Rattle.std.specs.declared.cmp.Ordering.TheVariants.{Less, Equal, Greater}
use Rattle.std.specs.Str.{bytes_eq}
use Rattle.std.proofs.lemmas.Bool.Decides.{nat_tests}
use Rattle.std.proofs.lemmas.Cmp.{on_total, nat_cmp_total, nat_list_cmp_total, same_from_slice_cmp}
use Rattle.std.proofs.lemmas.Slice.Eq.{bytes_eq-Decides}
use Rattle.table.specs.Keys.{location_cmp, location_before, location_same, lex_before, name_cmp, name_before, name_same}
use Rattle.table.specs.Order.{Order, before_by, JustOne, Tells}
use Rattle.table.specs.declared.location.Location.{Location}
use Rattle.table.specs.declared.name.Name.{Name}

-- of two keys the first comes before the second, or they are the same, or the second comes before the first
module _ {K : Type 0} {cmp : K → K → Ordering} {same : K → K → Bool} (o : Order cmp same) where
  -- just one of the three holds
  pub key_one : (a b : K) → JustOne (before_by cmp a b) (same a b) (before_by cmp b a)
  key_one a b = grind (arith, o.ties a b, o.total.antisymm b a)

  -- before carries on from key to key
  pub key_on : (a b c : K) → before_by cmp a b ≡ true → before_by cmp b c ≡ true → before_by cmp a c ≡ true
  key_on a b c h k = grind (arith, o.total.trans a b c)

  -- and so does same
  pub key_stays : (a b c : K) → same a b ≡ true → same b c ≡ true → same a c ≡ true
  key_stays a b c h k = grind (arith, o.ties a b, o.ties b c, o.ties a c, o.total.congr a b c)

  -- an answer names the one that holds
  pub key_tells : (a b : K) (r : Ordering) → r ≡ cmp a b → Tells r (before_by cmp a b) (same a b) (before_by cmp b a)
  key_tells a b Less h = grind arith
  key_tells a b Equal h = grind (arith, o.ties a b)
  key_tells a b Greater h = grind (arith, o.total.antisymm b a)

pub location_order : Order location_cmp location_same
location_order = record { total = on_total (λ a. a.0) nat_cmp_total; ties = λ a b. grind (arith, nat_tests) }

pub location_before-Decides : (a b : Location) → Decides (location_before a b) (a.0 < b.0)
location_before-Decides a b = grind (arith, nat_tests)

-- what `cmp` answers of two lists of codes is their dictionary order, one way or the other, or that they are the same
pub lex_is_lt : (xs ys : List ℕ) → is_lt (slice_cmp nat_cmp xs ys) ≡ lex_before xs ys
lex_is_lt xs ys = same_from_slice_cmp nat_cmp is_lt lex_before refl (λ _ _. refl) (λ _ _. refl) (λ x y xs ys o h. grind (arith, nat_tests)) xs ys _ refl

pub lex_is_eq : (xs ys : List ℕ) → bytes_eq xs ys ≡ is_eq (slice_cmp nat_cmp xs ys)
lex_is_eq = lists_ties nat_cmp unsigned_ties

pub lex_is_gt : (xs ys : List ℕ) → is_gt (slice_cmp nat_cmp xs ys) ≡ lex_before ys xs
lex_is_gt xs ys = same_from_slice_cmp nat_cmp is_gt (λ xs ys. lex_before ys xs) refl (λ _ _. refl) (λ _ _. refl) (λ x y xs ys o h. grind (arith, nat_tests)) xs ys _ refl

-- an answer of `cmp` names the one of the three that holds
pub lex_tells : (xs ys : List ℕ) (r : Ordering) → r ≡ slice_cmp nat_cmp xs ys → Tells r (lex_before xs ys) (bytes_eq xs ys) (lex_before ys xs)
lex_tells xs ys Less h = sym (ap is_lt h ∙ lex_is_lt xs ys)
lex_tells xs ys Equal h = lex_is_eq xs ys ∙ sym (ap is_eq h)
lex_tells xs ys Greater h = sym (ap is_gt h ∙ lex_is_gt xs ys)

pub name_order : Order name_cmp name_same
name_order = record { total = on_total (λ a. a.codes) nat_list_cmp_total; ties = λ a b. lex_is_eq a.codes b.codes }

-- names go as words in a dictionary
pub name_before-lex : (a b : Name) → name_before a b ≡ lex_before a.codes b.codes
name_before-lex a b = lex_is_lt a.codes b.codes

pub name_same-Decides : (a b : Name) → Decides (name_same a b) (a ≡ b)
name_same-Decides a b = grind (arith, bytes_eq-Decides a.codes b.codes)
