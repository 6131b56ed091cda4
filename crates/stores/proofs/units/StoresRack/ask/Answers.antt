use Rattle.std.proofs.Common.{refl, arith, rules}
use Rattle.stores.proofs.Held.{tape_read, disk_read, none_at}
use Rattle.stores.proofs.units.StoresRack.ask.Goals as goal

pub returns-in-Some-Tape : goal.returns-in-Some-Tape
returns-in-Some-Tape c =
    rw (tape_read c.args.self.now _ c.in-Some-Tape.i c.index-self-i.result (omega arith) (rw c.in-Some-Tape.field-0-is at c.in-Some-Tape.ensures)) (search rules)

pub returns-in-Some-Disk : goal.returns-in-Some-Disk
returns-in-Some-Disk c =
    rw (disk_read c.args.self.now _ c.in-Some-Disk.i c.index-self-i-in-Some-Disk.result (omega arith) (rw c.in-Some-Disk.field-0-is at c.in-Some-Disk.ensures)) (grind arith)

pub returns-in-None : goal.returns-in-None
returns-in-None c = rw (none_at c.args.self.now _ c.in-None.ensures) refl
