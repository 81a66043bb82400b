use Rattle.std.proofs.Common.{length}
use Rattle.dne_cli.specs.Kept.{image_bytes}
use Rattle.dne_cli.proofs.Committing.{has_bytes, has_risen, is_committed, is_torn}
use Rattle.dne_cli.proofs.target.commit.Goals as goal

pub commit-requires : goal.commit-requires
commit-requires g c = has_bytes c.args.served.ledger.count c.args.served.ledger.bytes c.image.result.now c.image.ensures.bytes

pub returns-in-Ok-clause-ok : goal.returns-in-Ok-clause-ok
returns-in-Ok-clause-ok g c =
    let shown = g.D.Disk.shown in
    is_committed c.image.result.now (image_bytes c.args.served.ledger) (shown c.args.served.store.disk) (shown c.commit.new.self.disk) c.image.ensures.bytes
    c.in-Ok.ensures.stays c.in-Ok.ensures.later c.a_settled_disk_stands.ensures c.in-Ok.ensures.done

pub returns-in-Err-Disk-clause-err : goal.returns-in-Err-Disk-clause-err
returns-in-Err-Disk-clause-err g c =
    let shown = g.D.Disk.shown in
    let old = shown c.args.served.store.disk in
    let new = shown c.commit.new.self.disk in
    let rose = has_risen (Unit {0}) old.faults new.faults (length c.image.result.now) c.in-Err-Disk.field-0 c.in-Err-Disk.field-0-is c.in-Err-Disk.ensures.causes in
    rw c.into_disk.ensures (is_torn c.image.result.now (image_bytes c.args.served.ledger) old new c.image.ensures.bytes
    c.in-Err-Disk.ensures.stays c.in-Err-Disk.ensures.later rose c.a_settled_disk_stands.ensures c.in-Err-Disk.ensures.any_moment)
