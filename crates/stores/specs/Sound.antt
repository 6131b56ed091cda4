-- Lemmas for the two laws of racks: tapes and disks in memory are as the rules allow them, and a time fits.
use Rattle.std.proofs.Common.{◌≡◌, ℕ, ◌-◌, ◌≤◌, List, [], ◌∷◌, map, length, get_or, Some, None, Option, IfSome, refl, ⊎_elim, arith}
use Rattle.std.specs.List.{AllByRecursion}
use Rattle.std.specs.Option.{option_map, option_map_or}
use Rattle.std.proofs.lemmas.Bool.{cases_lt}
use Rattle.std.proofs.lemmas.Bool.Decides.{nat_tests}
use Rattle.std.proofs.lemmas.List.{length-map}
use Rattle.rack.specs.Units.{Sound, SoundIf, kind_of}
use Rattle.rack.specs.declared.kind.Kind.TheVariants as kind
use Rattle.rack.specs.declared.request.Request.{Request}
use Rattle.stores.specs.Blocks.{words_in}
use Rattle.stores.specs.Stores.{tape_holding, disk_holding, holds_of, times_of, tells_of}
use Rattle.stores.specs.declared.block.Block.{Block}
use Rattle.stores.specs.declared.disk.Disk.{Disk}
use Rattle.stores.specs.declared.stores.Stores.{Stores}
use Rattle.stores.specs.declared.tape.Tape.{Tape}

-- each block has 100 words or is damaged
pub blocks_long : (bs : List (Option Block)) → AllByRecursion (λ b. IfSome b (λ ws. length ws ≡ 100)) (map words_in bs)
blocks_long [] = tt
blocks_long (None ∷ bs) = (tt, blocks_long bs)
blocks_long (Some b ∷ bs) = (b.long, blocks_long bs)

pub tape_sound : (t : Tape) → Sound kind.Tape (tape_holding t)
tape_sound t =
    let long = length-map t.blocks.items words_in in
    record {
      capacity = t.small;
      count = omega arith;
      words = blocks_long t.blocks.items;
      position = omega arith;
      full = λ e. cc;
      still = ((λ e. cc), (λ e. cc), (λ e. cc));
    }

pub disk_sound : (d : Disk) → Sound kind.Disk (disk_holding d)
disk_sound d =
    let long = length-map d.blocks.items words_in in
    record {
      capacity = omega arith;
      count = omega arith;
      words = blocks_long d.blocks.items;
      position = omega arith;
      full = λ e. long;
      still = ((λ e. refl), (λ e. refl), (λ e. refl));
    }

tape_sound_if : (o : Option Tape) → SoundIf (Some kind.Tape) (option_map tape_holding o)
tape_sound_if None = tt
tape_sound_if (Some t) = tape_sound t

disk_sound_if : (o : Option Disk) → SoundIf (Some kind.Disk) (option_map disk_holding o)
disk_sound_if None = tt
disk_sound_if (Some d) = disk_sound d

pub stores_sound : (r : Stores) (u : ℕ) → SoundIf (kind_of u) (holds_of r u)
unfolding holds_of
stores_sound r u =
    ⊎_elim
    (λ l.
    let k : kind_of u ≡ Some kind.Tape = grind (arith, nat_tests) in
    let h : holds_of r u ≡ option_map tape_holding (get_or r.tapes u None) = grind (arith, nat_tests) in
    rw (k, h) (tape_sound_if (get_or r.tapes u None)))
    (λ m.
    ⊎_elim
    (λ l.
    let k : kind_of u ≡ Some kind.Disk = grind (arith, nat_tests) in
    let h : holds_of r u ≡ option_map disk_holding (get_or r.disks (u - 8) None) = grind (arith, nat_tests) in
    rw (k, h) (disk_sound_if (get_or r.disks (u - 8) None)))
    (λ l. let h : holds_of r u ≡ None = grind (arith, nat_tests) in rw h tt)
    (cases_lt u 16))
    (cases_lt u 8)

tape_bounded : (o : Option Tape) → option_map_or (λ t. t.time) o 0 ≤ 65535
tape_bounded None = omega arith
tape_bounded (Some t) = t.timed

disk_bounded : (o : Option Disk) → option_map_or (λ d. d.time) o 0 ≤ 65535
disk_bounded None = omega arith
disk_bounded (Some d) = d.timed

pub stores_bounded : (r : Stores) (q : Request) → tells_of r q ≤ 65535
unfolding times_of
stores_bounded r q = grind (arith, tape_bounded (get_or r.tapes q.unit.number None), disk_bounded (get_or r.disks (q.unit.number - 8) None))
