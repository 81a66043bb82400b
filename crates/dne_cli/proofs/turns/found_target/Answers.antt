use Rattle.std.proofs.Common.{[], inl, inr, sym, ap, ◌∙◌, false, refl, subst, append-nil}
use Rattle.outside.specs.Disk.{Shown}
use Rattle.scenario_text.specs.declared.line.Line.TheVariants as lines
use Rattle.dne_cli.specs.Kept.{Ledger, Founds, serving_on, stopped}
use Rattle.dne_cli.specs.Disks.{Formatted, Faulted}
use Rattle.dne_cli.specs.Restart.{FailsToMake, held_of}
use Rattle.dne_cli.specs.declared.target.MakeFault.TheVariants as make_fault
use Rattle.dne_cli.proofs.Printed.{printed}
use Rattle.dne_cli.proofs.turns.found_target.Goals as goal

pub returns-in-Ok-clause-lines : goal.returns-in-Ok-clause-lines
returns-in-Ok-clause-lines g c =
    let old = (held_of g.D.Disk.shown c.args.target).disk in
    let new = g.D.Disk.shown c.in-Ok.store.disk in
    let formatted : Formatted old new = subst (λ (d : Shown). Formatted d new) c.into_disk.ensures c.in-Ok.ensures.ok in
    ([], inl (new, formatted, ap (λ (l : Ledger). serving_on l new) c.requires, refl), sym (append-nil c.args.out.now))

pub returns-in-Err-Disk-clause-lines : goal.returns-in-Err-Disk-clause-lines
returns-in-Err-Disk-clause-lines g c =
    let old = (held_of g.D.Disk.shown c.args.target).disk in
    let new = held_of g.D.Disk.shown c.halted.result in
    let shown = g.D.Disk.shown in
    let disk = c.in-Err-Disk.disk in
    let failed : FailsToMake shown (shown c.into_disk.result) (make_fault.Disk disk) = subst (FailsToMake shown (shown c.into_disk.result)) c.in-Err-Disk.field-0-is c.in-Err-Disk.ensures.err in
    let faulted : Faulted old (shown disk) = subst (λ (d : Shown). Faulted d (shown disk)) c.into_disk.ensures failed in
    printed c.print_down.result c.args.out.now c.print_down.new.out (lines.Down 0) (λ ls. Founds old c.args.ledger.tree.targets new ls)
    c.print_down.ensures.ok
    (inr (shown disk, faulted, c.halted.ensures ∙ ap (λ d. stopped false (shown d)) c.in-Err-Disk.disk-is, refl))
