-- What is found by a name, and by a code and a field.
use Rattle.std.proofs.Common.{◌≡◌, ℕ, zero, suc, ◌<◌, ◌≤◌, Bool, true, false, cond, ◌&&◌, eqb, List, [], is_some, Some, None, Option, Result, Ok, Err, refl, ap, sym, ◌∙◌, subst, ⊎_elim, arith}
use Rattle.std.proofs.lemmas.Slice.Eq.{bytes_eq-Decides}
use Rattle.std.proofs.lemmas.Bool.{cases_lt, both_ways}
use Rattle.std.proofs.lemmas.Bool.Decides.{Decides-below_and, nat_tests}
use Rattle.std.proofs.lemmas.Cmp.{ranked}
use Rattle.std.proofs.lemmas.List.Sorted.{IsNonDecreasingBy-from_default}
use Rattle.std.specs.List.{find}
use Rattle.std.specs.List.Sorted.{IsSearchInRange, IsBinarySearchResult, IsNonDecreasingBy}
use Rattle.std.specs.Option.{option_map}
use Rattle.std.specs.Ordering.{nat_cmp, ordering_index}
use Rattle.std.specs.Result.{result_ok}
use Rattle.names.specs.declared.kinds.Instruction.{Instruction}
use Rattle.names.specs.declared.kinds.Operation.{Operation}
use Rattle.names.specs.declared.kinds.Operation.TheVariants.{Machine}
use Rattle.names.specs.Names.{Line, table, called, operation_of, name_of, instruction_of, known, lists_field}
use Rattle.names.specs.Order.{Columns, key_of, ordered, line_at}
use Rattle.names.specs.Laws.{Stands, Bytes, NameLaws}
use Rattle.names.proofs.Keys.{key_same}
use Rattle.names.proofs.Lines.{find_some, find_none, stands_at, at_stands, sorted_in, sorted_out, rising_at}
use Rattle.names.proofs.Rule.{One, ascends, long, is_spelled, is_fit, is_missing, is_coded, is_four, right_at, is_called, one_called, one_known}

-- where only one line passes a test, each line that passes it is found
finds : (test : Line → Bool) → One test → (l : Line) → Stands table l → test l ≡ true → find test table ≡ Some l
finds test one l s t = at (find test table) refl
  where
    at : (o : Option Line) → find test table ≡ o → o ≡ Some l
    at None e = absurd (find_none test table e l s t)
    at (Some m) e = let r = find_some test table m e in ap Some (one m l r.0 s r.1 t)

-- the lines in the order of the names are those of the table
in_ordered : (l : Line) → Stands table l → Stands ordered l
unfolding ordered
in_ordered l s = sorted_in table l s

from_ordered : (l : Line) → Stands ordered l → Stands table l
unfolding ordered
from_ordered l s = sorted_out table l s

-- a line for where there is none
abbrev nothing : Line
nothing = ([], Machine (record { c = 0; f = 0 }))

at_place : (k : ℕ) → k < 147 → Stands table (line_at k)
at_place k h = from_ordered (line_at k) (at_stands ordered _ k (omega (arith, long)))

-- the order in which the lines are sought does not matter there
in_order : (test : Line → Bool) → One test → find test ordered ≡ find test table
in_order test one = at (find test ordered) refl
  where
    at : (o : Option Line) → find test ordered ≡ o → o ≡ find test table
    at None e = none (find test table) refl
      where
        none : (q : Option Line) → find test table ≡ q → None ≡ q
        none None f = refl
        none (Some l) f = let r = find_some test table l f in absurd (find_none test ordered e l (in_ordered l r.0) r.1)
    at (Some l) e = let r = find_some test ordered l e in sym (finds test one l (from_ordered l r.0) r.1)

-- a name is below those after it
pub above : (i j : ℕ) → i < j → j < 147 → key_of (line_at i).0 < key_of (line_at j).0
above i j g h = rising_at 0 ordered ascends _ i j g (omega (arith, long))

-- a comparison with a number does not fall as what is compared grows
compare_rises : (a b k : ℕ) → a ≤ b → ordering_index (nat_cmp a k) ≤ ordering_index (nat_cmp b k)
compare_rises a b k h = grind (arith, nat_tests)

-- so the comparisons with a number do not fall along the order of the names
comparisons_rise : (k : ℕ) → IsNonDecreasingBy (λ (l : Line). ordering_index (nat_cmp (key_of l.0) k)) ordered
comparisons_rise k = IsNonDecreasingBy-from_default (λ (l : Line). ordering_index (nat_cmp (key_of l.0) k)) ordered nothing (λ i j le h.
    ⊎_elim (λ b. compare_rises _ _ k (omega (arith, above i j b (omega (arith, long))))) (λ b. let same : i ≡ j = omega arith in compare_rises _ _ k (omega (arith, ap (λ n. key_of (line_at n).0) same))) (cases_lt i j))

-- a place with the key of a name has what the name stands for
pub found_at : (w : List ℕ) → Columns w → (k : ℕ) → k < 147 → key_of (line_at k).0 ≡ key_of w → operation_of w ≡ Some (line_at k).1
unfolding operation_of
found_at w p k h e =
    let s = at_place k h in
    let f = key_same (line_at k).0 w (is_four (line_at k).0 (right_at (line_at k) s).1) p e in
    ap (option_map (λ (l : Line). l.1)) (finds (called w) (one_called w) (line_at k) s ((bytes_eq-Decides (line_at k).0 w).1 f))

pub none_at : (w : List ℕ) → ((k : ℕ) → k < 147 → key_of (line_at k).0 ≡ key_of w → ⊥) → operation_of w ≡ None
unfolding operation_of
none_at w h = at (find (called w) ordered) refl
  where
    at : (o : Option Line) → find (called w) ordered ≡ o → option_map (λ (l : Line). l.1) (find (called w) table) ≡ None
    at None e = ap (option_map (λ (l : Line). l.1)) (sym (in_order (called w) (one_called w)) ∙ e)
    at (Some l) e =
        let r = find_some (called w) ordered l e in
        let p = stands_at ordered nothing l r.0 in
        absurd (h p.0 (omega (arith, long)) (ap (λ (m : Line). key_of m.0) p.2 ∙ ap key_of (is_called w l r.1)))

-- a search by halves for the key of a name ends where the name leads
pub searched : (w : List ℕ) → Columns w → (r : Result ℕ ℕ) → IsSearchInRange r 147 → IsBinarySearchResult (λ (l : Line). nat_cmp (key_of l.0) (key_of w)) ordered r → option_map (λ k. (line_at k).1) (result_ok r) ≡ operation_of w
searched w p (Ok k) h equal = sym (found_at w p k h (ranked _ (key_of w) _ (sym (equal nothing))))
searched w p (Err k) h parted =
    let parts = parted (comparisons_rise (key_of w)) in
    sym (none_at w (λ i g same. ⊎_elim (λ b. let f = ranked _ (key_of w) _ (sym (parts.0 i nothing (omega arith) b)) in omega arith) (λ b. let f = ranked _ (key_of w) _ (sym (parts.1 i nothing b (omega (arith, long)))) in omega arith) (cases_lt i k)))

-- a search line by line finds the name of a code and a field
pub named : {X : Type 0} (k n : ℕ) (now : X → Line) (o : Option X) → option_map now o ≡ find (known k n) ordered → option_map (λ x. (now x).0) o ≡ name_of k n
unfolding name_of
named k n now None e = ap (option_map (λ (l : Line). l.0)) (e ∙ in_order (known k n) (one_known k n))
named k n now (Some x) e = ap (option_map (λ (l : Line). l.0)) (e ∙ in_order (known k n) (one_known k n))

law_found : (l : Line) → Stands table l → operation_of l.0 ≡ Some l.1
unfolding operation_of
law_found l s = ap (option_map (λ (m : Line). m.1)) (finds (called l.0) (one_called l.0) l s ((bytes_eq-Decides l.0 l.0).1 refl))

law_only : (w : List ℕ) (o : Operation) → operation_of w ≡ Some o → Stands table (w, o)
unfolding operation_of
law_only w o e = at (find (called w) table) refl e
  where
    at : (q : Option Line) → find (called w) table ≡ q → option_map (λ (l : Line). l.1) q ≡ Some o → Stands table (w, o)
    at None f g = let z : ◌≡◌ {A = ℕ} 0 1 = cc in absurd (omega arith)
    at (Some l) f g =
        let r = find_some (called w) table l f in
        let h : l.1 ≡ o = cc in
        let P : Line → Type 0 = λ m. Stands table m in
        subst P (λ i. (is_called w l r.1 i, h i)) r.0

law_named : (w : List ℕ) (i : Instruction) → operation_of w ≡ Some (Machine i) → name_of i.c i.f ≡ Some w
unfolding name_of
law_named w i e =
    ap (option_map (λ (l : Line). l.0)) (finds (known i.c i.f) (one_known i.c i.f) (w, Machine i) (law_only w (Machine i) e) (grind (arith, nat_tests)))

law_again : (k n : ℕ) (w : List ℕ) → name_of k n ≡ Some w → (i : Instruction) × (operation_of w ≡ Some (Machine i)) × (i.c ≡ k) × (lists_field k ≡ true → i.f ≡ n)
unfolding name_of
law_again k n w e = at (find (known k n) table) refl e
  where
    at : (q : Option Line) → find (known k n) table ≡ q → option_map (λ (l : Line). l.0) q ≡ Some w → (i : Instruction) × (operation_of w ≡ Some (Machine i)) × (i.c ≡ k) × (lists_field k ≡ true → i.f ≡ n)
    at None f g = let z : ◌≡◌ {A = ℕ} 0 1 = cc in absurd (omega arith)
    at (Some l) f g =
        let r = find_some (known k n) table l f in
        let i = is_coded k n l.1 r.1 in
        let h : w ≡ l.0 = cc in
        (i.0, ap operation_of h ∙ law_found l r.0 ∙ ap Some i.1, i.2, i.3)

-- an F with which each code has a name
abbrev field : ℕ → ℕ
field k = cond (eqb k 5) 2 0

abbrev all_named : ℕ → Bool
all_named zero = true
all_named (suc k) = is_some (name_of k (field k)) && all_named k

each_named : all_named 64 ≡ true
unfolding table name_of
each_named = refl

law_each : (k : ℕ) → k < 64 → (n : ℕ) × (w : List ℕ) × (name_of k n ≡ Some w)
law_each k h = at (name_of k (field k)) refl ((Decides-below_and (λ k. is_some (name_of k (field k))) (λ k. is_some (name_of k (field k)) ≡ true) all_named (λ k. (λ t. t, λ t. t)) refl (λ _. refl) 64).0 each_named k h)
  where
    at : (q : Option (List ℕ)) → name_of k (field k) ≡ q → is_some q ≡ true → (n : ℕ) × (w : List ℕ) × (name_of k n ≡ Some w)
    at None f t = absurd (both_ways false refl t)
    at (Some w) f t = (field k, w, f)

-- what is found has a code and a field that are bytes
pub fit : (w : List ℕ) → Bytes (operation_of w)
fit w = at (operation_of w) refl
  where
    at : (q : Option Operation) → operation_of w ≡ q → Bytes q
    at None e = tt
    at (Some o) e = is_fit (instruction_of o) (right_at (w, o) (law_only w o e)).2

pub name_laws : NameLaws
name_laws =
    record {
      found = law_found;
      only = law_only;
      spelled = λ w o e. is_spelled w (right_at (w, o) (law_only w o e)).0;
      missing = λ w i e. is_missing i (right_at (w, Machine i) (law_only w (Machine i) e)).2;
      named = law_named;
      again = law_again;
      each_code = law_each;
    }
