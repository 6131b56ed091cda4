-- The rules of the table, each by one test of all of its lines.
use Rattle.std.proofs.Common.{◌≡◌, ℕ, ◌-◌, Bool, true, false, cond, ◌&&◌, ◌||◌, eqb, ltb, leb, List, [], ◌∷◌, ◌++◌, length, get_or, replicate, Some, None, Decides, Option, sym, refl, ◌∙◌, arith}
use Rattle.std.proofs.lemmas.Slice.Eq.{bytes_eq-Decides}
use Rattle.std.proofs.lemmas.Bool.{and_parts, or_left, or_right, both_ways, leb-true}
use Rattle.std.proofs.lemmas.Bool.Decides.{nat_tests}
use Rattle.std.proofs.ByRecursion.{Decides-by_and}
use Rattle.std.specs.Str.{bytes_eq}
use Rattle.names.specs.declared.kinds.Instruction.{Instruction}
use Rattle.names.specs.declared.kinds.Operation.{Operation}
use Rattle.names.specs.declared.kinds.Operation.TheVariants.{Machine, Equ, Orig, Con, Alf, End}
use Rattle.names.specs.Names.{Line, table, called, instruction_of, coded, known, missing_field, lists_field}
use Rattle.names.specs.Order.{Columns, ordered}
use Rattle.names.specs.Laws.{Stands, Fit, Mark, Spelled}
use Rattle.names.proofs.Lines.{every, every_at, apart, apart_at, rising}

-- two instructions of one code, and of one field where the table lists it
abbrev alike : Option Instruction → Option Instruction → Bool
alike None o = false
alike (Some i) o = coded i.c i.f o

abbrev clash : Line → Line → Bool
clash l m = bytes_eq l.0 m.0 || alike (instruction_of l.1) (instruction_of m.1)

clear : apart clash table ≡ true
unfolding table
clear = refl

pub ascends : rising 0 ordered ≡ true
unfolding table ordered
ascends = refl

pub long : length ordered ≡ 147
unfolding table ordered
long = refl

-- the name up to its first blank
abbrev front : List ℕ → List ℕ
front [] = []
front (x ∷ xs) = cond (eqb x 32) [] (x ∷ front xs)

abbrev mark : ℕ → Bool
mark x = (leb 65 x && leb x 90) || (leb 48 x && leb x 57)

abbrev marks : List ℕ → Bool
marks [] = true
marks (x ∷ xs) = mark x && marks xs

abbrev pub spelled : List ℕ → Bool
spelled w = leb 1 (length (front w)) && (leb (length (front w)) 4 && (marks (front w) && bytes_eq w (front w ++ replicate (4 - length (front w)) 32)))

abbrev pub four : List ℕ → Bool
four w = eqb (length w) 4 && (ltb (get_or w 0 0) 256 && (ltb (get_or w 1 0) 256 && (ltb (get_or w 2 0) 256 && ltb (get_or w 3 0) 256)))

abbrev pub sound : Option Instruction → Bool
sound None = true
sound (Some i) = ltb i.c 64 && (ltb i.f 64 && (lists_field i.c || eqb i.f (missing_field i.c)))

abbrev right : Line → Bool
right l = spelled l.0 && (four l.0 && sound (instruction_of l.1))

all_right : every right table ≡ true
unfolding table
all_right = refl

mark_decides : (x : ℕ) → Decides (mark x) (Mark x)
mark_decides x = (λ t. grind (arith, nat_tests), λ h. grind (arith, nat_tests))

pub is_four : (w : List ℕ) → four w ≡ true → Columns w
is_four w t = grind (arith, nat_tests)

pub is_fit : (o : Option Instruction) → sound o ≡ true → Fit o
is_fit None t = tt
is_fit (Some i) t = grind (arith, nat_tests)

pub is_missing : (i : Instruction) → sound (Some i) ≡ true → lists_field i.c ≡ false → i.f ≡ missing_field i.c
is_missing i t e = grind (arith, nat_tests)

pub is_coded : (k n : ℕ) (o : Operation) → coded k n (instruction_of o) ≡ true → (i : Instruction) × (o ≡ Machine i) × (i.c ≡ k) × (lists_field k ≡ true → i.f ≡ n)
is_coded k n (Machine i) t = (i, refl, grind (arith, nat_tests), λ e. grind (arith, nat_tests))
is_coded k n Equ t = absurd (both_ways false refl t)
is_coded k n Orig t = absurd (both_ways false refl t)
is_coded k n Con t = absurd (both_ways false refl t)
is_coded k n Alf t = absurd (both_ways false refl t)
is_coded k n End t = absurd (both_ways false refl t)

is_alike : (k n : ℕ) (o p : Option Instruction) → coded k n o ≡ true → coded k n p ≡ true → alike o p ≡ true
is_alike k n None p s t = absurd (both_ways false refl s)
is_alike k n (Some i) None s t = absurd (both_ways false refl t)
is_alike k n (Some i) (Some j) s t = grind (arith, nat_tests)

pub right_at : (l : Line) → Stands table l → (spelled l.0 ≡ true) × (four l.0 ≡ true) × (sound (instruction_of l.1) ≡ true)
right_at l s =
    let p = and_parts (spelled l.0) (four l.0 && sound (instruction_of l.1)) (every_at right table all_right l s) in
    let q = and_parts (four l.0) (sound (instruction_of l.1)) p.1 in
    (p.0, q.0, q.1)

pub is_spelled : (w : List ℕ) → spelled w ≡ true → Spelled w
is_spelled w t =
    let n = length (front w) in
    let rest = bytes_eq w (front w ++ replicate (4 - n) 32) in
    let p = and_parts (leb 1 n) (leb n 4 && (marks (front w) && rest)) t in
    let q = and_parts (leb n 4) (marks (front w) && rest) p.1 in
    let r = and_parts (marks (front w)) rest q.1 in
    record {
      marks = front w;
      some = leb-true 1 n p.0;
      few = leb-true n 4 q.0;
      plain = (Decides-by_and mark Mark marks mark_decides refl (λ _ _. refl) (front w)).0 r.0;
      blanks = (bytes_eq-Decides w (front w ++ replicate (4 - n) 32)).0 r.1;
    }

-- only one line passes a test
abbrev pub One : (Line → Bool) → Type 0
One test = (l m : Line) → Stands table l → Stands table m → test l ≡ true → test m ≡ true → l ≡ m

pub is_called : (w : List ℕ) (l : Line) → called w l ≡ true → l.0 ≡ w
is_called w l = (bytes_eq-Decides l.0 w).0

pub one_called : (w : List ℕ) → One (called w)
one_called w l m s r p q =
    let e = is_called w l p in
    let f = is_called w m q in
    apart_at clash table clear l m s r
    (or_left (bytes_eq l.0 m.0) _ ((bytes_eq-Decides l.0 m.0).1 (e ∙ sym f)))
    (or_left (bytes_eq m.0 l.0) _ ((bytes_eq-Decides m.0 l.0).1 (f ∙ sym e)))

pub one_known : (k n : ℕ) → One (known k n)
one_known k n l m s r p q =
    apart_at clash table clear l m s r
    (or_right (bytes_eq l.0 m.0) _ (is_alike k n (instruction_of l.1) (instruction_of m.1) p q))
    (or_right (bytes_eq m.0 l.0) _ (is_alike k n (instruction_of m.1) (instruction_of l.1) q p))
