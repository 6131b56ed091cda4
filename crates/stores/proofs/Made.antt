-- Contents that the rules allow.
use Rattle.std.proofs.Common.{◌≡◌, ℕ, ◌+◌, ◌<◌, ◌≤◌, length, Some, None, Ok, Err, arith}
use Rattle.std.proofs.lemmas.Bool.Decides.{nat_tests}
use Rattle.std.proofs.lemmas.List.{length-map, set-set}
use Rattle.rack.specs.Units.{Sound, kind_of}
use Rattle.rack.specs.declared.kind.Kind.TheVariants as kind
use Rattle.stores.specs.Blocks.{words_in}
use Rattle.stores.proofs.Held.{with_tape, with_disk, tape_set, disk_set}
use Rattle.stores.specs.Contents.{holding_in, Refuses, Makes}
use Rattle.stores.specs.Sound.{blocks_long, tape_sound, disk_sound}
use Rattle.stores.specs.Stores.{tape_holding, disk_holding, holds_of}
use Rattle.stores.specs.declared.contents.Contents.{Contents}
use Rattle.stores.specs.declared.contents.NotMade.{NotMade}
use Rattle.stores.specs.declared.contents.NotMade.TheVariants.{NoStore, NotAllowed, OutOfMemory}
use Rattle.stores.specs.declared.disk.Disk.{Disk}
use Rattle.stores.specs.declared.stores.Stores.{Stores}
use Rattle.stores.specs.declared.tape.Tape.{Tape}

pub tape_allowed : (c : Contents) → c.capacity ≤ 1000 → length c.blocks.now ≤ c.capacity → c.position ≤ length c.blocks.now → Sound kind.Tape (holding_in c)
tape_allowed c small count within =
    let long = length-map c.blocks.now words_in in
    record {
      capacity = small;
      count = omega arith;
      words = blocks_long c.blocks.now;
      position = omega arith;
      full = λ e. cc;
      still = ((λ e. cc), (λ e. cc), (λ e. cc));
    }

pub disk_allowed : (c : Contents) → c.capacity ≤ 1000 → length c.blocks.now ≡ c.capacity → c.position ≡ 0 → Sound kind.Disk (holding_in c)
disk_allowed c small full still =
    let long = length-map c.blocks.now words_in in
    record {
      capacity = small;
      count = omega arith;
      words = blocks_long c.blocks.now;
      position = omega arith;
      full = λ e. omega arith;
      still = ((λ e. still), (λ e. still), (λ e. still));
    }

module _ (r : Stores) (n i : ℕ) (c : Contents) where
  -- a tape is in, and one that is refused is absent
  pub tape_in : (t : Tape) → length r.tapes ≡ 8 → (n ≡ i) × (i < 8) → tape_holding t ≡ holding_in c → Makes n (holding_in c) (holds_of r) (holds_of (with_tape (with_tape r i None) i (Some t))) (Ok tt)
  tape_in t long at e =
      let k : kind_of n ≡ Some kind.Tape = grind (arith, nat_tests) in
      (omega arith, (rw (k, ← e) (tape_sound t)), rw (set-set, ← e) (tape_set r n i (Some t) long at.0 at.1))

  pub tape_out : (e : NotMade) → length r.tapes ≡ 8 → (n ≡ i) × (i < 8) → Refuses (Sound kind.Tape (holding_in c)) e → Makes n (holding_in c) (holds_of r) (holds_of (with_tape r i None)) (Err e)
  tape_out NoStore long at f = absurd f
  tape_out NotAllowed long at f =
      let k : kind_of n ≡ Some kind.Tape = grind (arith, nat_tests) in
      (omega arith, rw k f, tape_set r n i None long at.0 at.1)
  tape_out OutOfMemory long at f =
      let k : kind_of n ≡ Some kind.Tape = grind (arith, nat_tests) in
      (omega arith, rw k f, tape_set r n i None long at.0 at.1)

  -- a disk likewise
  pub disk_in : (d : Disk) → length r.disks ≡ 8 → (n ≡ i + 8) × (i < 8) → disk_holding d ≡ holding_in c → Makes n (holding_in c) (holds_of r) (holds_of (with_disk (with_disk r i None) i (Some d))) (Ok tt)
  disk_in d long at e =
      let k : kind_of n ≡ Some kind.Disk = grind (arith, nat_tests) in
      (omega arith, (rw (k, ← e) (disk_sound d)), rw (set-set, ← e) (disk_set r n i (Some d) long at.0 at.1))

  pub disk_out : (e : NotMade) → length r.disks ≡ 8 → (n ≡ i + 8) × (i < 8) → Refuses (Sound kind.Disk (holding_in c)) e → Makes n (holding_in c) (holds_of r) (holds_of (with_disk r i None)) (Err e)
  disk_out NoStore long at f = absurd f
  disk_out NotAllowed long at f =
      let k : kind_of n ≡ Some kind.Disk = grind (arith, nat_tests) in
      (omega arith, rw k f, disk_set r n i None long at.0 at.1)
  disk_out OutOfMemory long at f =
      let k : kind_of n ≡ Some kind.Disk = grind (arith, nat_tests) in
      (omega arith, rw k f, disk_set r n i None long at.0 at.1)
