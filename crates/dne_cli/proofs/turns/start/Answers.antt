use Rattle.std.specs.Prelude.{OnOk}
use Rattle.std.proofs.Common.{◌≡◌, ◌++◌, inl, inr, ℕ, length, refl, subst}
use Rattle.scenario_text.specs.LineText.{up_text}
use Rattle.scenario_text.specs.declared.line.Line.TheVariants as lines
use Rattle.dne_cli.specs.Disks.{calls_of, HoldsBadImage, HoldsNothing}
use Rattle.dne_cli.specs.Kept.{Starts, Unread, Damaged, opened_on}
use Rattle.dne_cli.specs.Restart.{held_of, FailsToReopen}
use Rattle.dne_cli.proofs.Printed.{printed}
use Rattle.dne_cli.proofs.turns.start.Goals as goal

pub returns-in-Ok-clause-lines : goal.returns-in-Ok-clause-lines
returns-in-Ok-clause-lines g c =
    let disk = g.D.Disk.shown c.args.disk in
    let new = g.D.Disk.shown c.in-Ok.store.disk in
    let numbers = c.in-Ok.numbers in
    printed c.print_up.result c.args.out.now c.print_up.new.out (lines.Up c.args.number (length numbers) numbers) (λ ls. Starts (calls_of g.D.Disk.cycled g.D.Plant.armed) disk c.args.number (opened_on new) ls)
    (subst (λ (n : ℕ). OnOk c.print_up.result (c.print_up.new.out ≡ c.args.out.now ++ up_text c.args.number n numbers)) c.len-transno.ensures c.print_up.ensures.ok)
    (inl (new, length numbers, numbers, c.in-Ok.ensures.ok, refl, refl))

pub returns-in-Err-Disk-clause-lines : goal.returns-in-Err-Disk-clause-lines
returns-in-Err-Disk-clause-lines g c =
    let disk = g.D.Disk.shown c.args.disk in
    let failed : Unread (calls_of g.D.Disk.cycled g.D.Plant.armed) disk (g.D.Disk.shown c.in-Err-Disk.disk) = subst (FailsToReopen (calls_of g.D.Disk.cycled g.D.Plant.armed) g.D.Disk.shown disk) c.in-Err-Disk.field-0-is c.in-Err-Disk.ensures.err in
    printed c.print_down.result c.args.out.now c.print_down.new.out (lines.Down c.args.number) (λ ls. Starts (calls_of g.D.Disk.cycled g.D.Plant.armed) disk c.args.number (held_of g.D.Disk.shown c.halted.result) ls)
    c.print_down.ensures.ok
    (inr (inl (g.D.Disk.shown c.in-Err-Disk.disk, failed, c.halted.ensures, refl)))

pub returns-in-Err-Gates-clause-lines : goal.returns-in-Err-Gates-clause-lines
returns-in-Err-Gates-clause-lines g c =
    let disk = g.D.Disk.shown c.args.disk in
    let failed : Damaged (calls_of g.D.Disk.cycled g.D.Plant.armed) (HoldsNothing c.in-Err-Gates.gates) disk (g.D.Disk.shown c.in-Err-Gates.disk) = subst (FailsToReopen (calls_of g.D.Disk.cycled g.D.Plant.armed) g.D.Disk.shown disk) c.in-Err-Gates.field-0-is c.in-Err-Gates.ensures.err in
    printed c.print_damaged_gates.result c.args.out.now c.print_damaged_gates.new.out (lines.DamagedGates c.args.number c.in-Err-Gates.gates) (λ ls. Starts (calls_of g.D.Disk.cycled g.D.Plant.armed) disk c.args.number (held_of g.D.Disk.shown c.halted-in-Err-Gates.result) ls)
    c.print_damaged_gates.ensures.ok
    (inr (inr (inl (g.D.Disk.shown c.in-Err-Gates.disk, c.in-Err-Gates.gates, failed, c.halted-in-Err-Gates.ensures, refl))))

pub returns-in-Err-Image-clause-lines : goal.returns-in-Err-Image-clause-lines
returns-in-Err-Image-clause-lines g c =
    let disk = g.D.Disk.shown c.args.disk in
    let failed : Damaged (calls_of g.D.Disk.cycled g.D.Plant.armed) (HoldsBadImage c.in-Err-Image.place) disk (g.D.Disk.shown c.in-Err-Image.disk) = subst (FailsToReopen (calls_of g.D.Disk.cycled g.D.Plant.armed) g.D.Disk.shown disk) c.in-Err-Image.field-0-is c.in-Err-Image.ensures.err in
    printed c.print_damaged_image.result c.args.out.now c.print_damaged_image.new.out (lines.DamagedImage c.args.number c.in-Err-Image.place) (λ ls. Starts (calls_of g.D.Disk.cycled g.D.Plant.armed) disk c.args.number (held_of g.D.Disk.shown c.halted-in-Err-Image.result) ls)
    c.print_damaged_image.ensures.ok
    (inr (inr (inr (g.D.Disk.shown c.in-Err-Image.disk, c.in-Err-Image.place, failed, c.halted-in-Err-Image.ensures, refl))))
