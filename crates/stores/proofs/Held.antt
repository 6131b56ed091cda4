-- What a rack of tapes and disks holds, and what it holds after one of them has changed.
use Rattle.std.proofs.Common.{◌≡◌, ◌≢◌, ℕ, zero, suc, ◌+◌, ◌-◌, ◌<◌, ◌≤◌, [], length, get_or, set, replicate, Some, None, Ok, Err, Option, Result, refl, sym, ap, ◌∙◌, ⊎_elim, arith}
use Rattle.std.specs.Bool.{⊤}
use Rattle.std.specs.Option.{option_map, option_map_or}
use Rattle.std.proofs.lemmas.Bool.{cases_lt}
use Rattle.std.proofs.lemmas.Bool.Decides.{nat_tests}
use Rattle.std.proofs.lemmas.Grind.{get_or-set_at}
use Rattle.std.proofs.lemmas.List.{get_or-set_other, get_or_default}
use mathlib.Core.Path.{fun_ext}
use Rattle.rack.specs.Transfers.{Leaves, Answer, After, on_unit, updated}
use Rattle.rack.specs.Units.{Holding, Holdings, kind_of, text_of_unit}
use Rattle.rack.specs.declared.fault.UnitFault.{UnitFault}
use Rattle.rack.specs.declared.fault.UnitFault.TheVariants.{Absent}
use Rattle.rack.specs.declared.kind.Kind.{Kind}
use Rattle.rack.specs.declared.kind.Kind.TheVariants as kind
use Rattle.rack.specs.declared.request.Request.{Request}
use Rattle.rack.specs.declared.unit.Unit.{Unit}
use Rattle.stores.specs.Stores.{tape_holding, disk_holding, holds_of, times_of, tells_of}
use Rattle.stores.specs.declared.disk.Disk.{Disk}
use Rattle.stores.specs.declared.stores.Stores.{Stores}
use Rattle.stores.specs.declared.tape.Tape.{Tape}

-- holdings with what they have already
same_updated : (g : Holdings) (n : ℕ) (o : Option Holding) → g n ≡ o → updated g n o ≡ g
unfolding updated
same_updated g n o e = fun_ext (λ v. grind (arith, nat_tests))

-- what a call leaves of one holding is what it leaves of the rack
left_after : (u : Unit) (a : Answer) (h h' : Holding) (g g' : Holdings) (x : Result ⊤ UnitFault) → g u.number ≡ Some h → g' ≡ updated g u.number (Some h') → Leaves a h h' x → After u a g g' x
left_after u (Ok e) h h' g g' (Ok x) is new left = new ∙ ap (λ k. updated g u.number (Some k)) left
left_after u (Ok e) h h' g g' (Err f) is new left = left
left_after u (Err f) h h' g g' (Ok x) is new left = left
left_after u (Err f) h h' g g' (Err f') is new left = (left.0, new ∙ same_updated g u.number (Some h') (is ∙ ap (λ k. Some k) (sym left.1)))

-- what is tried on a unit that is present
tried_on : (u : Unit) (f : Kind → Holding → Answer) (o : Option Holding) (k : Kind) (h : Holding) → o ≡ Some h → kind_of u.number ≡ Some k → on_unit u f o ≡ f k h
tried_on u f o k h e is = rw (e, is)

no_text_below : (n p : ℕ) (o : Option Holding) → n < 16 → text_of_unit n o p ≡ []
no_text_below n p None l = refl
no_text_below n p (Some h) l = grind (arith, nat_tests)

module _ (r : Stores) where
  -- a rack with another tape, and with another disk
  abbrev pub with_tape : ℕ → Option Tape → Stores
  with_tape i t = record { tapes = set r.tapes i t; disks = r.disks }

  abbrev pub with_disk : ℕ → Option Disk → Stores
  with_disk i d = record { tapes = r.tapes; disks = set r.disks i d }

  -- what one number holds
  pub tape_at : (n i : ℕ) → n ≡ i → i < 8 → holds_of r n ≡ option_map tape_holding (get_or r.tapes i None)
  unfolding holds_of
  tape_at n i e l = grind (arith, nat_tests)

  pub disk_at : (n i : ℕ) → n ≡ i + 8 → i < 8 → holds_of r n ≡ option_map disk_holding (get_or r.disks i None)
  unfolding holds_of
  disk_at n i e l = grind (arith, nat_tests)

  pub none_at : (n : ℕ) → 16 ≤ n → holds_of r n ≡ None
  unfolding holds_of
  none_at n l = grind (arith, nat_tests)

  -- the time of one number
  pub tape_told : (q : Request) (i : ℕ) (d : Option Tape) → length r.tapes ≡ 8 → (q.unit.number ≡ i) × (i < 8) → tells_of r q ≡ option_map_or (λ t. t.time) (get_or r.tapes i d) 0
  unfolding times_of
  tape_told q i d long at = let e = get_or_default r.tapes i None d (omega arith) in grind (arith, nat_tests)

  pub disk_told : (q : Request) (i : ℕ) (d : Option Disk) → length r.disks ≡ 8 → (q.unit.number ≡ i + 8) × (i < 8) → tells_of r q ≡ option_map_or (λ k. k.time) (get_or r.disks i d) 0
  unfolding times_of
  disk_told q i d long at = let e = get_or_default r.disks i None d (omega arith) in grind (arith, nat_tests)

  pub none_told : (q : Request) → 16 ≤ q.unit.number → tells_of r q ≡ 0
  unfolding times_of
  none_told q l = grind (arith, nat_tests)

  -- the same where it is read
  pub tape_read : (n i : ℕ) (d : Option Tape) → length r.tapes ≡ 8 → (n ≡ i) × (i < 8) → holds_of r n ≡ option_map tape_holding (get_or r.tapes i d)
  tape_read n i d long at = tape_at n i at.0 at.1 ∙ ap (option_map tape_holding) (get_or_default r.tapes i None d (omega arith))

  pub disk_read : (n i : ℕ) (d : Option Disk) → length r.disks ≡ 8 → (n ≡ i + 8) × (i < 8) → holds_of r n ≡ option_map disk_holding (get_or r.disks i d)
  disk_read n i d long at = disk_at n i at.0 at.1 ∙ ap (option_map disk_holding) (get_or_default r.disks i None d (omega arith))

  -- the number of a tape or a disk that is not there
  pub tape_absent : (n i : ℕ) (d : Option Tape) → length r.tapes ≡ 8 → (n ≡ i) × (i < 8) → get_or r.tapes i d ≡ None → holds_of r n ≡ None
  tape_absent n i d long at is = tape_read n i d long at ∙ ap (option_map tape_holding) is

  pub disk_absent : (n i : ℕ) (d : Option Disk) → length r.disks ≡ 8 → (n ≡ i + 8) × (i < 8) → get_or r.disks i d ≡ None → holds_of r n ≡ None
  disk_absent n i d long at is = disk_read n i d long at ∙ ap (option_map disk_holding) is

  -- and of one that is
  pub tape_there : (n i : ℕ) (t : Tape) (d : Option Tape) → length r.tapes ≡ 8 → (n ≡ i) × (i < 8) → get_or r.tapes i d ≡ Some t → holds_of r n ≡ Some (tape_holding t)
  tape_there n i t d long at is = tape_read n i d long at ∙ ap (option_map tape_holding) is

  pub disk_there : (n i : ℕ) (k : Disk) (d : Option Disk) → length r.disks ≡ 8 → (n ≡ i + 8) × (i < 8) → get_or r.disks i d ≡ Some k → holds_of r n ≡ Some (disk_holding k)
  disk_there n i k d long at is = disk_read n i d long at ∙ ap (option_map disk_holding) is

  -- tapes and disks have no text
  pub no_text : (n p : ℕ) → text_of_unit n (holds_of r n) p ≡ []
  no_text n p = ⊎_elim (no_text_below n p (holds_of r n)) (λ l. ap (λ o. text_of_unit n o p) (none_at n l)) (cases_lt n 16)

  -- what all numbers hold after a change
  pub tape_set : (n i : ℕ) (t : Option Tape) → length r.tapes ≡ 8 → n ≡ i → i < 8 → holds_of (with_tape i t) ≡ updated (holds_of r) n (option_map tape_holding t)
  unfolding holds_of updated
  tape_set n i t long e l = fun_ext (λ v. grind (arith, nat_tests, get_or-set_at r.tapes i v t None, get_or-set_other r.tapes i v t None))

  pub disk_set : (n i : ℕ) (d : Option Disk) → length r.disks ≡ 8 → n ≡ i + 8 → i < 8 → holds_of (with_disk i d) ≡ updated (holds_of r) n (option_map disk_holding d)
  unfolding holds_of updated
  disk_set n i d long e l = fun_ext (λ v. grind (arith, nat_tests, get_or-set_at r.disks i (v - 8) d None, get_or-set_other r.disks i (v - 8) d None))

  -- the times of all numbers after a change
  pub tape_timed : (n i : ℕ) (t : Option Tape) → length r.tapes ≡ 8 → (n ≡ i) × (i < 8) → (times_of (with_tape i t) n ≡ option_map_or (λ k. k.time) t 0) × ((v : ℕ) → v ≢ n → times_of (with_tape i t) v ≡ times_of r v)
  unfolding times_of
  tape_timed n i t long at = (grind (arith, nat_tests, get_or-set_at r.tapes i n t None), λ v other. grind (arith, nat_tests, get_or-set_other r.tapes i v t None))

  pub disk_timed : (n i : ℕ) (d : Option Disk) → length r.disks ≡ 8 → (n ≡ i + 8) × (i < 8) → (times_of (with_disk i d) n ≡ option_map_or (λ k. k.time) d 0) × ((v : ℕ) → v ≢ n → times_of (with_disk i d) v ≡ times_of r v)
  unfolding times_of
  disk_timed n i d long at = (grind (arith, nat_tests, get_or-set_at r.disks i (n - 8) d None), λ v other. grind (arith, nat_tests, get_or-set_other r.disks i (v - 8) d None))

  -- a tape or a disk of the same time
  pub tape_times : (n i : ℕ) (t t' : Tape) (d : Option Tape) → length r.tapes ≡ 8 → (n ≡ i) × (i < 8) → get_or r.tapes i d ≡ Some t → t'.time ≡ t.time → times_of (with_tape i (Some t')) ≡ times_of r
  unfolding times_of
  tape_times n i t t' d long at is e =
      let there : get_or r.tapes i None ≡ Some t = get_or_default r.tapes i None d (omega arith) ∙ is in
      fun_ext (λ v. grind (arith, nat_tests, get_or-set_at r.tapes i v (Some t') None, get_or-set_other r.tapes i v (Some t') None))

  pub disk_times : (n i : ℕ) (k k' : Disk) (d : Option Disk) → length r.disks ≡ 8 → (n ≡ i + 8) × (i < 8) → get_or r.disks i d ≡ Some k → k'.time ≡ k.time → times_of (with_disk i (Some k')) ≡ times_of r
  unfolding times_of
  disk_times n i k k' d long at is e =
      let there : get_or r.disks i None ≡ Some k = get_or_default r.disks i None d (omega arith) ∙ is in
      fun_ext (λ v. grind (arith, nat_tests, get_or-set_at r.disks i (v - 8) (Some k') None, get_or-set_other r.disks i (v - 8) (Some k') None))

  -- what stays absent
  pub no_tape_times : (n i : ℕ) (o d : Option Tape) → length r.tapes ≡ 8 → (n ≡ i) × (i < 8) → get_or r.tapes i d ≡ None → o ≡ None → times_of (with_tape i o) ≡ times_of r
  unfolding times_of
  no_tape_times n i o d long at is e =
      let there : get_or r.tapes i None ≡ None = get_or_default r.tapes i None d (omega arith) ∙ is in
      fun_ext (λ v. grind (arith, nat_tests, get_or-set_at r.tapes i v o None, get_or-set_other r.tapes i v o None))

  pub no_disk_times : (n i : ℕ) (o d : Option Disk) → length r.disks ≡ 8 → (n ≡ i + 8) × (i < 8) → get_or r.disks i d ≡ None → o ≡ None → times_of (with_disk i o) ≡ times_of r
  unfolding times_of
  no_disk_times n i o d long at is e =
      let there : get_or r.disks i None ≡ None = get_or_default r.disks i None d (omega arith) ∙ is in
      fun_ext (λ v. grind (arith, nat_tests, get_or-set_at r.disks i (v - 8) o None, get_or-set_other r.disks i (v - 8) o None))

  module _ (u : Unit) (f : Kind → Holding → Answer) where
    -- what is tried on a tape, on a disk, and on an absent unit
    pub tape_tried : (i : ℕ) (t : Tape) (d : Option Tape) → length r.tapes ≡ 8 → (u.number ≡ i) × (i < 8) → get_or r.tapes i d ≡ Some t → on_unit u f (holds_of r u.number) ≡ f kind.Tape (tape_holding t)
    tape_tried i t d long n is = tried_on u f (holds_of r u.number) kind.Tape (tape_holding t) (tape_there u.number i t d long n is) (grind (arith, nat_tests))

    pub disk_tried : (i : ℕ) (k : Disk) (d : Option Disk) → length r.disks ≡ 8 → (u.number ≡ i + 8) × (i < 8) → get_or r.disks i d ≡ Some k → on_unit u f (holds_of r u.number) ≡ f kind.Disk (disk_holding k)
    disk_tried i k d long n is = tried_on u f (holds_of r u.number) kind.Disk (disk_holding k) (disk_there u.number i k d long n is) (grind (arith, nat_tests))

    pub absent_tried : holds_of r u.number ≡ None → on_unit u f (holds_of r u.number) ≡ Err (Absent u)
    absent_tried e = rw e

    -- what a call leaves of a tape, and of a disk, is what it leaves of the rack
    pub tape_called : (i : ℕ) (t t' : Tape) (d : Option Tape) (x : Result ⊤ UnitFault) → length r.tapes ≡ 8 → (u.number ≡ i) × (i < 8) → get_or r.tapes i d ≡ Some t → Leaves (f kind.Tape (tape_holding t)) (tape_holding t) (tape_holding t') x → After u (on_unit u f (holds_of r u.number)) (holds_of r) (holds_of (with_tape i (Some t'))) x
    tape_called i t t' d x long n is left =
        rw (tape_tried i t d long n is)
        (left_after u _ (tape_holding t) (tape_holding t') _ _ x (tape_there u.number i t d long n is) (tape_set u.number i (Some t') long n.0 n.1) left)

    pub disk_called : (i : ℕ) (k k' : Disk) (d : Option Disk) (x : Result ⊤ UnitFault) → length r.disks ≡ 8 → (u.number ≡ i + 8) × (i < 8) → get_or r.disks i d ≡ Some k → Leaves (f kind.Disk (disk_holding k)) (disk_holding k) (disk_holding k') x → After u (on_unit u f (holds_of r u.number)) (holds_of r) (holds_of (with_disk i (Some k'))) x
    disk_called i k k' d x long n is left =
        rw (disk_tried i k d long n is)
        (left_after u _ (disk_holding k) (disk_holding k') _ _ x (disk_there u.number i k d long n is) (disk_set u.number i (Some k') long n.0 n.1) left)

    -- a disk that a call only looks at
    pub disk_looked : (i : ℕ) (k : Disk) (d : Option Disk) (x : Result ⊤ UnitFault) → length r.disks ≡ 8 → (u.number ≡ i + 8) × (i < 8) → get_or r.disks i d ≡ Some k → Leaves (f kind.Disk (disk_holding k)) (disk_holding k) (disk_holding k) x → After u (on_unit u f (holds_of r u.number)) (holds_of r) (holds_of r) x
    disk_looked i k d x long n is left =
        let has = disk_there u.number i k d long n is in
        rw (disk_tried i k d long n is)
        (left_after u _ (disk_holding k) (disk_holding k) _ _ x has (sym (same_updated (holds_of r) u.number (Some (disk_holding k)) has)) left)

    -- a call on an absent unit leaves all as it was
    pub absent_called : holds_of r u.number ≡ None → After u (on_unit u f (holds_of r u.number)) (holds_of r) (holds_of r) (Err (Absent u))
    absent_called e = rw e (refl, refl)

    pub no_tape_called : (i : ℕ) (o d : Option Tape) → length r.tapes ≡ 8 → (u.number ≡ i) × (i < 8) → get_or r.tapes i d ≡ None → o ≡ None → After u (on_unit u f (holds_of r u.number)) (holds_of r) (holds_of (with_tape i o)) (Err (Absent u))
    no_tape_called i o d long n is e =
        let has = tape_absent u.number i d long n is in
        rw (tape_set u.number i o long n.0 n.1, e, same_updated (holds_of r) u.number None has) (absent_called has)

    pub no_disk_called : (i : ℕ) (o d : Option Disk) → length r.disks ≡ 8 → (u.number ≡ i + 8) × (i < 8) → get_or r.disks i d ≡ None → o ≡ None → After u (on_unit u f (holds_of r u.number)) (holds_of r) (holds_of (with_disk i o)) (Err (Absent u))
    no_disk_called i o d long n is e =
        let has = disk_absent u.number i d long n is in
        rw (disk_set u.number i o long n.0 n.1, e, same_updated (holds_of r) u.number None has) (absent_called has)

copies_at : {X : Type 0} (n i : ℕ) (d : X) → get_or (replicate n d) i d ≡ d
copies_at zero i d = refl
copies_at (suc n) zero d = refl
copies_at (suc n) (suc i) d = copies_at n i d

-- a new rack has no units
pub none_new : (u : ℕ) → holds_of (record { tapes = replicate 8 None; disks = replicate 8 None }) u ≡ None
unfolding holds_of
none_new u =
    let no_tape : Option Tape = None in
    let no_disk : Option Disk = None in
    let t = copies_at 8 u no_tape in
    let d = copies_at 8 (u - 8) no_disk in
    grind arith
