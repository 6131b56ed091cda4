use Rattle.std.proofs.Common.{◌≡◌, Err, ◌∙◌, arith, rules}
use Rattle.std.proofs.lemmas.List.{set-set}
use Rattle.stores.proofs.Held.{tape_timed, disk_timed}
use Rattle.stores.proofs.Made.{tape_in, tape_out, disk_in, disk_out}
use Rattle.stores.proofs.stores.Stores.install.Goals as goal

pub returns-in_err-new-in-Some-Tape : goal.returns-in_err-new-in-Some-Tape
returns-in_err-new-in-Some-Tape c =
    let at = rw c.in-Some-Tape.field-0-is at c.in-Some-Tape.ensures in
    let e : c.from_residual.result ≡ Err c.in_err-new-in-Some-Tape.field-0.0 = search rules in
    record {
      units = rw e (tape_out c.args.self.now _ c.in-Some-Tape.i c.args.contents _ (omega arith) at c.in_err-new-in-Some-Tape.ensures);
      time = rw e tt;
      times = (tape_timed c.args.self.now _ c.in-Some-Tape.i _ (omega arith) at).1;
    }

pub returns-in_ok-new-in-Some-Tape : goal.returns-in_ok-new-in-Some-Tape
returns-in_ok-new-in-Some-Tape c =
    let at = rw c.in-Some-Tape.field-0-is at c.in-Some-Tape.ensures in
    let made = c.in_ok-new-in-Some-Tape.ensures in
    record {
      units = tape_in c.args.self.now _ c.in-Some-Tape.i c.args.contents _ (omega arith) at made.0;
      time = rw set-set ((tape_timed c.args.self.now _ c.in-Some-Tape.i _ (omega arith) at).0 ∙ made.1);
      times = rw set-set (tape_timed c.args.self.now _ c.in-Some-Tape.i _ (omega arith) at).1;
    }

pub returns-in_err-new-in-Some-Disk : goal.returns-in_err-new-in-Some-Disk
returns-in_err-new-in-Some-Disk c =
    let at = rw c.in-Some-Disk.field-0-is at c.in-Some-Disk.ensures in
    let e : c.from_residual-in_err-new-in-Some-Disk.result ≡ Err c.in_err-new-in-Some-Disk.field-0.0 = search rules in
    record {
      units = rw e (disk_out c.args.self.now _ c.in-Some-Disk.i c.args.contents _ (omega arith) at c.in_err-new-in-Some-Disk.ensures);
      time = rw e tt;
      times = (disk_timed c.args.self.now _ c.in-Some-Disk.i _ (omega arith) at).1;
    }

pub returns-in_ok-new-in-Some-Disk : goal.returns-in_ok-new-in-Some-Disk
returns-in_ok-new-in-Some-Disk c =
    let at = rw c.in-Some-Disk.field-0-is at c.in-Some-Disk.ensures in
    let made = c.in_ok-new-in-Some-Disk.ensures in
    record {
      units = disk_in c.args.self.now _ c.in-Some-Disk.i c.args.contents _ (omega arith) at made.0;
      time = rw set-set ((disk_timed c.args.self.now _ c.in-Some-Disk.i _ (omega arith) at).0 ∙ made.1);
      times = rw set-set (disk_timed c.args.self.now _ c.in-Some-Disk.i _ (omega arith) at).1;
    }
