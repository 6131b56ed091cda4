-- What must hold of transfers, from what they are defined to do.
use Rattle.std.proofs.Common.{◌≡◌, ◌≢◌, ℕ, ◌<◌, ◌≤◌, Bool, true, false, cond, List, [], ◌∷◌, ◌++◌, length, set, slice_get, Some, None, Ok, Err, Option, Result, OnOk, refl, ap, ◌∙◌, ⊎_elim, arith}
use Rattle.std.specs.Bool.{⊤}
use Rattle.std.specs.Result.{result_err}
use Rattle.std.proofs.lemmas.Bool.{cases_lt}
use Rattle.std.proofs.lemmas.Bool.Decides.{nat_tests}
use Rattle.std.proofs.lemmas.List.{get_or-set_same, get_or_push, length-set, length_push}
use Rattle.std.proofs.lemmas.Option.{slice_get-get_or}
use Rattle.word.specs.declared.word.Word.{Word}
use Rattle.rack.specs.Laws.{is_in, cause_at, cause_on, first_cause, given, back_to, TakenAgain}
use Rattle.rack.specs.Transfers.{Answer, Effect, After, at_position, written_at, read_block, moved_to, if_ring, take_on, put_on, shift_on, on_kind, block_in, take_from, put_to, shift_of, filled, received, updated}
use Rattle.rack.specs.Units.{Holding, Holdings, SoundIf, kind_of}
use Rattle.rack.specs.declared.fault.UnitFault.{UnitFault}
use Rattle.rack.specs.declared.fault.UnitFault.TheVariants.{NotAllowed}
use Rattle.rack.specs.declared.kind.Kind.{Kind}
use Rattle.rack.specs.declared.kind.Kind.TheVariants.{Tape, Disk, Reader, Punch, Printer}
use Rattle.rack.specs.declared.request.Transfer.TheVariants.{Take, Put, Shift}
use Rattle.rack.specs.declared.standing.Ring.{Ring}
use Rattle.rack.specs.declared.standing.Ring.TheVariants.{In, Out}
use Rattle.rack.specs.declared.unit.Unit.{Unit}

-- the fault of a call is that of its answer
pub after_err : (u : Unit) (a : Answer) (old new : Holdings) (x : Result ⊤ UnitFault) → After u a old new x → result_err x ≡ result_err a
after_err u (Ok e) old new (Ok x) left = refl
after_err u (Ok e) old new (Err f) left = absurd left
after_err u (Err f) old new (Ok x) left = absurd left
after_err u (Err f) old new (Err g) left = ap (λ k. Some k) left.0

-- no other unit alters
pub after_other : (u : Unit) (a : Answer) (old new : Holdings) (x : Result ⊤ UnitFault) → After u a old new x → (v : ℕ) → v ≢ u.number → new v ≡ old v
unfolding updated
after_other u (Ok e) old new (Ok x) left v other = ap (λ (g : Holdings). g v) left ∙ grind (arith, nat_tests)
after_other u (Ok e) old new (Err f) left v other = absurd left
after_other u (Err f) old new (Ok x) left v other = absurd left
after_other u (Err f) old new (Err g) left v other = ap (λ (g : Holdings). g v) left.1

-- an answer that moves or rejects
moved_caused : (b : Bool) (h : Holding) (f : UnitFault) → result_err (cond b (moved_to h) (Err f)) ≡ cond b None (Some f)
moved_caused true h f = refl
moved_caused false h f = refl

ring_caused : (r : Ring) (u : Unit) (a : Answer) (c : Option UnitFault) → result_err a ≡ c → result_err (if_ring u r a) ≡ cond (is_in r) c (Some (NotAllowed u))
ring_caused In u a c e = e
ring_caused Out u a c e = refl

read_caused : (u : Unit) (p : ℕ) (h : Holding) (b : Option (Option (List Word))) → result_err (read_block u p h b) ≡ cause_at u p b
read_caused u p h None = refl
read_caused u p h (Some None) = refl
read_caused u p h (Some (Some ws)) = refl

take_caused : (u : Unit) (a : ℕ) (h : Holding) (k : Option Kind) → result_err (on_kind u (take_on u a) h k) ≡ cause_on u (Take a) h k
take_caused u a h None = refl
take_caused u a h (Some Tape) = read_caused u h.position _ (slice_get h.blocks h.position)
take_caused u a h (Some Disk) = read_caused u a h (slice_get h.blocks a)
take_caused u a h (Some Reader) = read_caused u h.position _ (slice_get h.blocks h.position)
take_caused u a h (Some Punch) = refl
take_caused u a h (Some Printer) = refl

put_caused : (u : Unit) (a : ℕ) (f : Kind → List Word) (h : Holding) (k : Option Kind) → result_err (on_kind u (λ k. put_on u a (f k) k) h k) ≡ cause_on u (Put a) h k
put_caused u a f h None = refl
put_caused u a f h (Some Tape) = ring_caused h.ring u _ _ (moved_caused _ _ _)
put_caused u a f h (Some Disk) = ring_caused h.ring u _ _ (moved_caused _ _ _)
put_caused u a f h (Some Reader) = refl
put_caused u a f h (Some Punch) = ring_caused h.ring u _ _ (moved_caused _ _ _)
put_caused u a f h (Some Printer) = ring_caused h.ring u _ _ (moved_caused _ _ _)

shift_caused : (u : Unit) (m : Word) (h : Holding) (k : Option Kind) → result_err (on_kind u (shift_on u m) h k) ≡ cause_on u (Shift m) h k
shift_caused u m h None = refl
shift_caused u m h (Some Tape) = refl
shift_caused u m h (Some Disk) = moved_caused _ h (NotAllowed u)
shift_caused u m h (Some Reader) = refl
shift_caused u m h (Some Punch) = refl
shift_caused u m h (Some Printer) = refl

-- the fault of a transfer is the first cause that holds
pub take_first : (u : Unit) (a : ℕ) (o : Option Holding) → result_err (take_from u a o) ≡ first_cause u (Take a) o
unfolding take_from
take_first u a None = refl
take_first u a (Some h) = take_caused u a h (kind_of u.number)

pub put_first : (u : Unit) (a : ℕ) (ws : List Word) (o : Option Holding) → result_err (put_to u a ws o) ≡ first_cause u (Put a) o
unfolding put_to
put_first u a ws None = refl
put_first u a ws (Some h) = put_caused u a (block_in ws) h (kind_of u.number)

pub shift_first : (u : Unit) (m : Word) (o : Option Holding) → result_err (shift_of u m o) ≡ first_cause u (Shift m) o
unfolding shift_of
shift_first u m None = refl
shift_first u m (Some h) = shift_caused u m h (kind_of u.number)

-- only a Take gives a block
filled_none : (xs : List Word) → filled xs [] ≡ xs
filled_none [] = refl
filled_none (x ∷ xs) = refl

moved_none : (b : Bool) (h : Holding) (f : UnitFault) (xs : List Word) → received (cond b (moved_to h) (Err f)) xs ≡ xs
moved_none true h f xs = filled_none xs
moved_none false h f xs = refl

ring_none : (r : Ring) (u : Unit) (a : Answer) (xs : List Word) → received a xs ≡ xs → received (if_ring u r a) xs ≡ xs
ring_none In u a xs e = e
ring_none Out u a xs e = refl

put_kind_none : (u : Unit) (a : ℕ) (f : Kind → List Word) (h : Holding) (k : Option Kind) (xs : List Word) → received (on_kind u (λ k. put_on u a (f k) k) h k) xs ≡ xs
put_kind_none u a f h None xs = refl
put_kind_none u a f h (Some Tape) xs = ring_none h.ring u _ xs (moved_none _ _ _ xs)
put_kind_none u a f h (Some Disk) xs = ring_none h.ring u _ xs (moved_none _ _ _ xs)
put_kind_none u a f h (Some Reader) xs = refl
put_kind_none u a f h (Some Punch) xs = ring_none h.ring u _ xs (moved_none _ _ _ xs)
put_kind_none u a f h (Some Printer) xs = ring_none h.ring u _ xs (moved_none _ _ _ xs)

shift_kind_none : (u : Unit) (m : Word) (h : Holding) (k : Option Kind) (xs : List Word) → received (on_kind u (shift_on u m) h k) xs ≡ xs
shift_kind_none u m h None xs = refl
shift_kind_none u m h (Some Tape) xs = filled_none xs
shift_kind_none u m h (Some Disk) xs = moved_none _ h (NotAllowed u) xs
shift_kind_none u m h (Some Reader) xs = refl
shift_kind_none u m h (Some Punch) xs = refl
shift_kind_none u m h (Some Printer) xs = refl

pub put_none : (u : Unit) (a : ℕ) (ws : List Word) (o : Option Holding) (xs : List Word) → received (put_to u a ws o) xs ≡ xs
unfolding put_to
put_none u a ws None xs = refl
put_none u a ws (Some h) xs = put_kind_none u a (block_in ws) h (kind_of u.number) xs

pub shift_none : (u : Unit) (m : Word) (o : Option Holding) (xs : List Word) → received (shift_of u m o) xs ≡ xs
unfolding shift_of
shift_none u m None xs = refl
shift_none u m (Some h) xs = shift_kind_none u m h (kind_of u.number) xs

-- an answer that moves and is accepted
moved_ok : (b : Bool) (h : Holding) (f : UnitFault) (e : Effect) → cond b (moved_to h) (Err f) ≡ Ok e → (b ≡ true) × (e.holding ≡ h)
moved_ok true h f e is = (refl, grind arith)
moved_ok false h f e is = cc

ring_ok : (r : Ring) (u : Unit) (a : Answer) (e : Effect) → if_ring u r a ≡ Ok e → a ≡ Ok e
ring_ok In u a e is = is
ring_ok Out u a e is = cc

-- a block that is written is read
written_read : (p : ℕ) (ws : List Word) (bs : List (Option (List Word))) → p ≤ length bs → slice_get (written_at p ws bs) p ≡ Some (Some ws)
written_read p ws bs l =
    ⊎_elim
    (λ (m : p < length bs).
    let e : written_at p ws bs ≡ set bs p (Some ws) = grind (arith, nat_tests) in
    rw e (slice_get-get_or (set bs p (Some ws)) p None (omega (arith, length-set bs p (Some ws))) ∙ ap (λ b. Some b) (get_or-set_same bs p (Some ws) None m)))
    (λ (m : length bs ≤ p).
    let e : written_at p ws bs ≡ bs ++ (Some ws ∷ []) = grind (arith, nat_tests) in
    rw e (slice_get-get_or (bs ++ (Some ws ∷ [])) p None (omega (arith, length_push bs (Some ws))) ∙ ap (λ b. Some b) (get_or_push bs (Some ws) None p (omega arith))))
    (cases_lt p (length bs))

-- the block that is put on a tape is taken from it, once it is back
tape_again : (u : Unit) (a : ℕ) (ws : List Word) (h : Holding) (e : Effect) → h.position ≤ length h.blocks → put_on u a ws Tape h ≡ Ok e → given (take_on u a Tape (at_position h.position e.holding)) ≡ Some ws
tape_again u a ws h e within is =
    let done = (moved_ok _ _ _ e (ring_ok h.ring u _ e is)).1 in
    rw (done, written_read h.position ws h.blocks within) refl

-- and the block that is put on a disk likewise
disk_again : (u : Unit) (a : ℕ) (ws : List Word) (h : Holding) (e : Effect) → put_on u a ws Disk h ≡ Ok e → given (take_on u a Disk (at_position h.position e.holding)) ≡ Some ws
disk_again u a ws h e is =
    let done = moved_ok _ _ _ e (ring_ok h.ring u _ e is) in
    let within : a < length h.blocks = grind (arith, nat_tests, done.0) in
    rw (done.1, slice_get-get_or (set h.blocks a (Some ws)) a None (omega (arith, length-set h.blocks a (Some ws))), get_or-set_same h.blocks a (Some ws) None within) refl

-- what was put is taken again
again : (u : Unit) (a : ℕ) (ws : List Word) (o : Option Holding) (e : Effect) → SoundIf (kind_of u.number) o → put_to u a ws o ≡ Ok e → u.number < 16 → given (take_from u a (back_to o (Some e.holding))) ≡ Some (block_in ws Tape)
unfolding put_to take_from block_in
again u a ws None e sound is l = cc
again u a ws (Some h) e sound is l =
    ⊎_elim
    (λ m.
    let k : kind_of u.number ≡ Some Tape = grind (arith, nat_tests) in
    rw k (tape_again u a (block_in ws Tape) h e (rw k at sound).position (rw k at is)))
    (λ m.
    let k : kind_of u.number ≡ Some Disk = grind (arith, nat_tests) in
    rw k (disk_again u a (block_in ws Disk) h e (rw k at is)))
    (cases_lt u.number 8)

put_left : (u : Unit) (a : ℕ) (ws : List Word) (old new : Holdings) (x : ⊤) (r : Answer) → SoundIf (kind_of u.number) (old u.number) → put_to u a ws (old u.number) ≡ r → After u r old new (Ok x) → TakenAgain u (Put a) ws (old u.number) (new u.number)
unfolding updated
put_left u a ws old new x (Ok e) sound is left l =
    let now : new u.number ≡ Some e.holding = ap (λ (g : Holdings). g u.number) left ∙ grind (arith, nat_tests) in
    rw now (again u a ws (old u.number) e sound is l)
put_left u a ws old new x (Err f) sound is left l = absurd left

pub put_again : (u : Unit) (a : ℕ) (ws : List Word) (old new : Holdings) (x : Result ⊤ UnitFault) → SoundIf (kind_of u.number) (old u.number) → After u (put_to u a ws (old u.number)) old new x → OnOk x (TakenAgain u (Put a) ws (old u.number) (new u.number))
put_again u a ws old new (Ok x) sound left = put_left u a ws old new x (put_to u a ws (old u.number)) sound refl left
put_again u a ws old new (Err f) sound left = tt
