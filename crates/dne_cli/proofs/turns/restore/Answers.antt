use Rattle.std.specs.Prelude.{OnOk}
use Rattle.std.proofs.Common.{◌≡◌, ◌++◌, [], inl, inr, List, ℕ, false, ap, ◌∙◌, refl, subst}
use Rattle.scenario_text.specs.LineText.{up_text}
use Rattle.scenario_text.specs.declared.line.Line.TheVariants as lines
use Rattle.dne_cli.specs.Kept.{Reformats, opened_on, stopped}
use Rattle.dne_cli.specs.Disks.{calls_of}
use Rattle.dne_cli.specs.Restart.{FailsToRemake, held_of}
use Rattle.dne_cli.specs.declared.target.MakeFault.TheVariants as make_fault
use Rattle.dne_cli.proofs.Printed.{printed}
use Rattle.dne_cli.proofs.turns.restore.Goals as goal

pub returns-in-Ok-reformat-clause-lines : goal.returns-in-Ok-reformat-clause-lines
returns-in-Ok-reformat-clause-lines g c =
    let disk = g.D.Disk.shown c.args.disk in
    let new = g.D.Disk.shown c.in-Ok-reformat.store.disk in
    let out = c.args.out.now in
    let printed_out = c.print_up-in-Ok-reformat.new.out in
    printed c.print_up-in-Ok-reformat.result out printed_out (lines.Up c.args.number 0 []) (λ ls. Reformats (calls_of g.D.Disk.cycled g.D.Plant.armed) disk c.args.number (opened_on new) ls)
    (subst (λ (l : List ℕ). OnOk c.print_up-in-Ok-reformat.result (printed_out ≡ out ++ up_text c.args.number 0 l)) c.new-in-Ok-reformat.ensures c.print_up-in-Ok-reformat.ensures.ok)
    (inl (new, c.in-Ok-reformat.ensures.ok, refl, refl))

pub returns-in-Err-Disk-clause-lines : goal.returns-in-Err-Disk-clause-lines
returns-in-Err-Disk-clause-lines g c =
    let calls = calls_of g.D.Disk.cycled g.D.Plant.armed in
    let shown = g.D.Disk.shown in
    let old = shown c.args.disk in
    let disk = c.in-Err-Disk.disk in
    let failed : FailsToRemake calls shown old (make_fault.Disk disk) = subst (FailsToRemake calls shown old) c.in-Err-Disk.field-0-is c.in-Err-Disk.ensures.err in
    printed c.print_down.result c.args.out.now c.print_down.new.out (lines.Down c.args.number) (λ ls. Reformats calls old c.args.number (held_of shown c.halted-in-Err-Disk.result) ls)
    c.print_down.ensures.ok
    (inr (shown disk, failed, c.halted-in-Err-Disk.ensures ∙ ap (λ d. stopped false (shown d)) c.in-Err-Disk.disk-is, refl))
