use Rattle.dne_cli.specs.Disks.{calls_of, Formatted}
use Rattle.dne_cli.specs.Kept.{Reformatted}
use Rattle.dne_cli.specs.Restart.{FailsToMake, FailsToRemake}
use Rattle.dne_cli.proofs.Reopening.{fails_after, formatted_after, if_err_map, if_ok_map, unformatted_off}
use Rattle.dne_cli.proofs.target.reformat.Goals as goal

pub returns-in-Ok-clause-ok : goal.returns-in-Ok-clause-ok
returns-in-Ok-clause-ok g c =
    let calls = calls_of g.D.Disk.cycled g.D.Plant.armed in
    let shown = g.D.Disk.shown in
    let old = shown c.args.disk in
    let mid = shown c.in-Ok.disk in
    if_ok_map c.format_disk.result (λ s. Formatted mid (shown s.disk)) (λ s. Reformatted calls old (shown s.disk)) (λ s f. formatted_after calls old mid (shown s.disk) c.in-Ok.ensures.ok f) c.format_disk.ensures.ok

pub returns-in-Ok-clause-err : goal.returns-in-Ok-clause-err
returns-in-Ok-clause-err g c =
    let calls = calls_of g.D.Disk.cycled g.D.Plant.armed in
    let shown = g.D.Disk.shown in
    let old = shown c.args.disk in
    let mid = shown c.in-Ok.disk in
    if_err_map c.format_disk.result (λ e. FailsToMake shown mid e) (λ e. FailsToRemake calls shown old e) (λ e f. fails_after calls shown old mid e c.in-Ok.ensures.ok f) c.format_disk.ensures.err

pub returns-in-Err-clause-err : goal.returns-in-Err-clause-err
returns-in-Err-clause-err g c = unformatted_off (calls_of g.D.Disk.cycled g.D.Plant.armed) (g.D.Disk.shown c.args.disk) (g.D.Disk.shown c.in-Err.disk) c.in-Err.ensures.err
