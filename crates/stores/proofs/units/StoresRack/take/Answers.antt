use Rattle.std.proofs.Common.{refl, arith}
use Rattle.rack.specs.Transfers.{take_from, take_on}
use Rattle.stores.proofs.Held.{tape_tried, tape_called, tape_times, tape_absent, disk_tried, disk_looked, disk_absent, no_tape_called, no_tape_times, absent_tried, absent_called, none_at}
use Rattle.stores.proofs.units.StoresRack.take.Goals as goal

pub returns-in-Some : goal.returns-in-Some
unfolding take_from
returns-in-Some c =
    let on = take_on c.args.unit c.args.block in
    let at = rw c.in-Some-Tape.field-0-is at c.in-Some-Tape.ensures in
    record {
      units = tape_called c.args.self.now c.args.unit on c.in-Some-Tape.i c.in-Some.tape c.take.new.self _ _ (omega arith) at c.in-Some.is c.take.ensures.tape;
      area = rw (tape_tried c.args.self.now c.args.unit on c.in-Some-Tape.i c.in-Some.tape _ (omega arith) at c.in-Some.is) c.take.ensures.area;
      times = tape_times c.args.self.now _ c.in-Some-Tape.i c.in-Some.tape c.take.new.self _ (omega arith) at c.in-Some.is c.take.ensures.time;
    }

pub returns-in-None-tapes : goal.returns-in-None-tapes
unfolding take_from
returns-in-None-tapes c =
    let on = take_on c.args.unit c.args.block in
    let at = rw c.in-Some-Tape.field-0-is at c.in-Some-Tape.ensures in
    record {
      units = no_tape_called c.args.self.now c.args.unit on c.in-Some-Tape.i _ _ (omega arith) at c.in-None-tapes.is (rw c.in-None-tapes.is refl);
      area = rw (absent_tried c.args.self.now c.args.unit on (tape_absent c.args.self.now _ c.in-Some-Tape.i _ (omega arith) at c.in-None-tapes.is)) refl;
      times = no_tape_times c.args.self.now _ c.in-Some-Tape.i _ _ (omega arith) at c.in-None-tapes.is (rw c.in-None-tapes.is refl);
    }

pub returns-in-Some-disks : goal.returns-in-Some-disks
unfolding take_from
returns-in-Some-disks c =
    let on = take_on c.args.unit c.args.block in
    let at = rw c.in-Some-Disk.field-0-is at c.in-Some-Disk.ensures in
    record {
      units = disk_looked c.args.self.now c.args.unit on c.in-Some-Disk.i c.in-Some-disks.disk _ _ (omega arith) at c.in-Some-disks.is c.take-in-Some-disks.ensures.disk;
      area = rw (disk_tried c.args.self.now c.args.unit on c.in-Some-Disk.i c.in-Some-disks.disk _ (omega arith) at c.in-Some-disks.is) c.take-in-Some-disks.ensures.area;
      times = refl;
    }

pub returns-in-None-disks : goal.returns-in-None-disks
unfolding take_from
returns-in-None-disks c =
    let on = take_on c.args.unit c.args.block in
    let at = rw c.in-Some-Disk.field-0-is at c.in-Some-Disk.ensures in
    let has = disk_absent c.args.self.now _ c.in-Some-Disk.i _ (omega arith) at c.in-None-disks.is in
    record {
      units = absent_called c.args.self.now c.args.unit on has;
      area = rw (absent_tried c.args.self.now c.args.unit on has) refl;
      times = refl;
    }

pub returns-in-None : goal.returns-in-None
unfolding take_from
returns-in-None c =
    let on = take_on c.args.unit c.args.block in
    let has = none_at c.args.self.now _ c.in-None.ensures in
    record {
      units = absent_called c.args.self.now c.args.unit on has;
      area = rw (absent_tried c.args.self.now c.args.unit on has) refl;
      times = refl;
    }
