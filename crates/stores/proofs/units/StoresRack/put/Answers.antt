use Rattle.std.proofs.Common.{refl, arith}
use Rattle.rack.specs.Transfers.{put_to, put_on, block_in}
use Rattle.rack.specs.declared.kind.Kind.{Kind}
use Rattle.stores.proofs.Held.{tape_called, tape_times, disk_called, disk_times, no_tape_called, no_tape_times, no_disk_called, no_disk_times, absent_called, none_at}
use Rattle.stores.proofs.units.StoresRack.put.Goals as goal

pub returns-in-Some : goal.returns-in-Some
unfolding put_to
returns-in-Some c =
    let on = λ (k : Kind). put_on c.args.unit c.args.block (block_in c.args.area.now k) k in
    let at = rw c.in-Some-Tape.field-0-is at c.in-Some-Tape.ensures in
    record {
      units = tape_called c.args.self.now c.args.unit on c.in-Some-Tape.i c.in-Some.tape c.put.new.self _ _ (omega arith) at c.in-Some.is c.put.ensures.tape;
      times = tape_times c.args.self.now _ c.in-Some-Tape.i c.in-Some.tape c.put.new.self _ (omega arith) at c.in-Some.is c.put.ensures.time;
    }

pub returns-in-None-tapes : goal.returns-in-None-tapes
unfolding put_to
returns-in-None-tapes c =
    let on = λ (k : Kind). put_on c.args.unit c.args.block (block_in c.args.area.now k) k in
    let at = rw c.in-Some-Tape.field-0-is at c.in-Some-Tape.ensures in
    record {
      units = no_tape_called c.args.self.now c.args.unit on c.in-Some-Tape.i _ _ (omega arith) at c.in-None-tapes.is (rw c.in-None-tapes.is refl);
      times = no_tape_times c.args.self.now _ c.in-Some-Tape.i _ _ (omega arith) at c.in-None-tapes.is (rw c.in-None-tapes.is refl);
    }

pub returns-in-Some-disks : goal.returns-in-Some-disks
unfolding put_to
returns-in-Some-disks c =
    let on = λ (k : Kind). put_on c.args.unit c.args.block (block_in c.args.area.now k) k in
    let at = rw c.in-Some-Disk.field-0-is at c.in-Some-Disk.ensures in
    record {
      units = disk_called c.args.self.now c.args.unit on c.in-Some-Disk.i c.in-Some-disks.disk c.put-in-Some-disks.new.self _ _ (omega arith) at c.in-Some-disks.is c.put-in-Some-disks.ensures.disk;
      times = disk_times c.args.self.now _ c.in-Some-Disk.i c.in-Some-disks.disk c.put-in-Some-disks.new.self _ (omega arith) at c.in-Some-disks.is c.put-in-Some-disks.ensures.time;
    }

pub returns-in-None-disks : goal.returns-in-None-disks
unfolding put_to
returns-in-None-disks c =
    let on = λ (k : Kind). put_on c.args.unit c.args.block (block_in c.args.area.now k) k in
    let at = rw c.in-Some-Disk.field-0-is at c.in-Some-Disk.ensures in
    record {
      units = no_disk_called c.args.self.now c.args.unit on c.in-Some-Disk.i _ _ (omega arith) at c.in-None-disks.is (rw c.in-None-disks.is refl);
      times = no_disk_times c.args.self.now _ c.in-Some-Disk.i _ _ (omega arith) at c.in-None-disks.is (rw c.in-None-disks.is refl);
    }

pub returns-in-None : goal.returns-in-None
unfolding put_to
returns-in-None c =
    let on = λ (k : Kind). put_on c.args.unit c.args.block (block_in c.args.area.now k) k in
    let has = none_at c.args.self.now _ c.in-None.ensures in
    record {
      units = absent_called c.args.self.now c.args.unit on has;
      times = refl;
    }
