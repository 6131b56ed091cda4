use Rattle.std.proofs.Common.{refl, arith}
use Rattle.std.proofs.lemmas.Bool.Decides.{nat_tests}
use Rattle.rack.specs.Transfers.{shift_of, shift_on}
use Rattle.stores.proofs.Held.{tape_called, tape_times, disk_looked, disk_absent, no_tape_called, no_tape_times, absent_called, none_at}
use Rattle.stores.proofs.units.StoresRack.shift.Goals as goal

pub returns-in-Some : goal.returns-in-Some
unfolding shift_of
returns-in-Some c =
    let on = shift_on c.args.unit c.args.by in
    let at = rw c.in-Some-Tape.field-0-is at c.in-Some-Tape.ensures in
    record {
      units = tape_called c.args.self.now c.args.unit on c.in-Some-Tape.i c.in-Some.tape c.shift.new.self _ _ (omega arith) at c.in-Some.is c.shift.ensures.tape;
      times = tape_times c.args.self.now _ c.in-Some-Tape.i c.in-Some.tape c.shift.new.self _ (omega arith) at c.in-Some.is c.shift.ensures.time;
    }

pub returns-in-None-tapes : goal.returns-in-None-tapes
unfolding shift_of
returns-in-None-tapes c =
    let on = shift_on c.args.unit c.args.by in
    let at = rw c.in-Some-Tape.field-0-is at c.in-Some-Tape.ensures in
    record {
      units = no_tape_called c.args.self.now c.args.unit on c.in-Some-Tape.i _ _ (omega arith) at c.in-None-tapes.is (rw c.in-None-tapes.is refl);
      times = no_tape_times c.args.self.now _ c.in-Some-Tape.i _ _ (omega arith) at c.in-None-tapes.is (rw c.in-None-tapes.is refl);
    }

pub returns-in-Some-disks : goal.returns-in-Some-disks
unfolding shift_of
returns-in-Some-disks c =
    let on = shift_on c.args.unit c.args.by in
    let at = rw c.in-Some-Disk.field-0-is at c.in-Some-Disk.ensures in
    record {
      units = disk_looked c.args.self.now c.args.unit on c.in-Some-Disk.i c.in-Some-disks.disk _ _ (omega arith) at c.in-Some-disks.is (grind (arith, nat_tests, c.shift-in-Some-disks.ensures));
      times = refl;
    }

pub returns-in-None-disks : goal.returns-in-None-disks
unfolding shift_of
returns-in-None-disks c =
    let on = shift_on c.args.unit c.args.by in
    let at = rw c.in-Some-Disk.field-0-is at c.in-Some-Disk.ensures in
    let has = disk_absent c.args.self.now _ c.in-Some-Disk.i _ (omega arith) at c.in-None-disks.is in
    record {
      units = absent_called c.args.self.now c.args.unit on has;
      times = refl;
    }

pub returns-in-None : goal.returns-in-None
unfolding shift_of
returns-in-None c =
    let on = shift_on c.args.unit c.args.by in
    let has = none_at c.args.self.now _ c.in-None.ensures in
    record {
      units = absent_called c.args.self.now c.args.unit on has;
      times = refl;
    }
