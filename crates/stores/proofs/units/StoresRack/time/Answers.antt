use Rattle.std.proofs.Common.{refl, arith, rules}
use Rattle.stores.proofs.Held.{tape_told, disk_told, none_told}
use Rattle.stores.proofs.units.StoresRack.time.Goals as goal

pub returns-in-Some-Tape-clause-told : goal.returns-in-Some-Tape-clause-told
returns-in-Some-Tape-clause-told c =
    rw (tape_told c.args.self.now c.args.request c.in-Some-Tape.i c.index-self-i.result (omega arith) (rw c.in-Some-Tape.field-0-is at c.in-Some-Tape.ensures)) (search rules)

pub returns-in-Some-Disk-clause-told : goal.returns-in-Some-Disk-clause-told
returns-in-Some-Disk-clause-told c =
    rw (disk_told c.args.self.now c.args.request c.in-Some-Disk.i c.index-self-i-in-Some-Disk.result (omega arith) (rw c.in-Some-Disk.field-0-is at c.in-Some-Disk.ensures)) (search rules)

pub returns-in-None-clause-told : goal.returns-in-None-clause-told
returns-in-None-clause-told c = rw (none_told c.args.self.now c.args.request c.in-None.ensures) refl
