use Rattle.std.proofs.Common.{◌≡◌, Ok, Err, subst}
use Rattle.target_disk.specs.Open.{FailsToOpen, Opens}
use Rattle.target_disk.specs.declared.store.OpenStoreFault.TheVariants as open_fault
use Rattle.dne_cli.specs.Image.{numbers_in}
use Rattle.dne_cli.specs.Disks.{calls_of}
use Rattle.dne_cli.specs.Restart.{BadAt}
use Rattle.dne_cli.specs.declared.image.ImageFault.TheVariants as image_fault
use Rattle.dne_cli.proofs.Reopening.{keeps_reopens, unread, unread_off, damaged_gates, damaged_image, reopened}
use Rattle.dne_cli.proofs.target.reopen.Goals as goal

pub returns-in-Err-BadImage-clause-err : goal.returns-in-Err-BadImage-clause-err
returns-in-Err-BadImage-clause-err g c =
    let old = g.D.Disk.shown c.args.disk in
    let mid = g.D.Disk.shown c.in-Ok.disk in
    let new = g.D.Disk.shown c.in-Ok-open.store.disk in
    let opens : Opens mid new c.in-Ok-open.image = c.in-Ok-open.ensures.ok in
    let read : BadAt (image_fault.BadImage c.in-Err-BadImage.place) (numbers_in c.bytes.result.now) = subst (λ e. BadAt e (numbers_in c.bytes.result.now)) c.in-Err-BadImage.field-0-is c.in-Err-BadImage.ensures.bad in
    let bad : numbers_in c.in-Ok-open.image ≡ Err c.in-Err-BadImage.place = subst (λ l. numbers_in l ≡ Err c.in-Err-BadImage.place) c.bytes.ensures read in
    rw c.into_disk.ensures (damaged_image (calls_of g.D.Disk.cycled g.D.Plant.armed) old mid new c.in-Ok.ensures.ok opens.reopens c.in-Ok-open.image c.in-Err-BadImage.place (g.D.Disk.whole c.in-Ok.disk).tells opens.opens bad)

pub returns-in-Err-Disk-clause-err : goal.returns-in-Err-Disk-clause-err
returns-in-Err-Disk-clause-err g c =
    let old = g.D.Disk.shown c.args.disk in
    let mid = g.D.Disk.shown c.in-Ok.disk in
    let failed : FailsToOpen g.D.Disk.shown mid (open_fault.Disk c.in-Err-Disk.disk) = subst (FailsToOpen g.D.Disk.shown mid) c.in-Err-Disk.field-0-is c.in-Err-Disk.ensures.err in
    rw c.in-Err-Disk.field-0-is (unread (calls_of g.D.Disk.cycled g.D.Plant.armed) old mid (g.D.Disk.shown c.in-Err-Disk.disk) c.in-Ok.ensures.ok failed.0 failed.1)

pub returns-in-Err-Damaged-clause-err : goal.returns-in-Err-Damaged-clause-err
returns-in-Err-Damaged-clause-err g c =
    let old = g.D.Disk.shown c.args.disk in
    let mid = g.D.Disk.shown c.in-Ok.disk in
    let new = g.D.Disk.shown c.in-Err-Damaged.disk in
    let failed : FailsToOpen g.D.Disk.shown mid (open_fault.Damaged c.in-Err-Damaged.disk c.in-Err-Damaged.gates) = subst (FailsToOpen g.D.Disk.shown mid) c.in-Err-Damaged.field-0-is c.in-Err-Damaged.ensures.err in
    rw c.in-Err-Damaged.field-0-is (damaged_gates (calls_of g.D.Disk.cycled g.D.Plant.armed) old mid new c.in-Ok.ensures.ok (keeps_reopens mid new failed.0) c.in-Err-Damaged.gates (g.D.Disk.whole c.in-Ok.disk).tells failed.2)

pub returns-in-Err-clause-err : goal.returns-in-Err-clause-err
returns-in-Err-clause-err g c = unread_off (calls_of g.D.Disk.cycled g.D.Plant.armed) (g.D.Disk.shown c.args.disk) (g.D.Disk.shown c.in-Err.disk) c.in-Err.ensures.err

pub returns-in-Ok-read_numbers-clause-ok : goal.returns-in-Ok-read_numbers-clause-ok
returns-in-Ok-read_numbers-clause-ok g c =
    let old = g.D.Disk.shown c.args.disk in
    let mid = g.D.Disk.shown c.in-Ok.disk in
    let new = g.D.Disk.shown c.in-Ok-open.store.disk in
    let numbers = c.in-Ok-read_numbers.numbers in
    let opens : Opens mid new c.in-Ok-open.image = c.in-Ok-open.ensures.ok in
    let read : numbers_in c.in-Ok-open.image ≡ Ok numbers = subst (λ l. numbers_in l ≡ Ok numbers) c.bytes.ensures c.in-Ok-read_numbers.ensures.ok in
    reopened (calls_of g.D.Disk.cycled g.D.Plant.armed) old mid new c.in-Ok.ensures.ok opens.reopens c.in-Ok-open.image numbers (g.D.Disk.whole c.in-Ok.disk).tells opens c.in-Ok-open.ensures.settled read
