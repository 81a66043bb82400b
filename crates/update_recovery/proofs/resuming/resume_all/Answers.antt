use Rattle.std.proofs.Common.{◌<◌, length, get_or, sym, ◌∙◌, arith}
use Rattle.std.proofs.lemmas.Option.{slice_get-get_or}
use Rattle.update_recovery.specs.Resuming.{Resumes, BreaksResuming}
use Rattle.update_recovery.proofs.Coming.{come_on, stopped_here, all_came, ok_then, err_then}
use Rattle.update_recovery.proofs.resuming.resume_all.Goals as goal

pub returns-then-is_err-clause-stopped : goal.returns-then-is_err-clause-stopped
returns-then-is_err-clause-stopped g c =
    let shown = g.D.Disk.shown in
    let epoch = c.args.epoch in
    let nodes = c.loop-place.nodes in
    let place = c.loop-place.place in
    let low : place < length nodes = omega (arith, c.loop-place-test.true, c.loop-place.auto.nodes) in
    stopped_here (Resumes shown epoch) place c.args.nodes.now nodes (get_or nodes place c.index-nodes-place.result) c.resume_target.new.node low
    (slice_get-get_or nodes place c.index-nodes-place.result low) c.loop-place.invariant (BreaksResuming shown epoch)
    (err_then c.resume_target.result (sym c.is_err.ensures.value ∙ c.if-is_err.true) c.resume_target.ensures.disk)

pub loop-place-preserved : goal.loop-place-preserved
loop-place-preserved g c =
    let shown = g.D.Disk.shown in
    let epoch = c.args.epoch in
    let nodes = c.loop-place.nodes in
    let place = c.loop-place.place in
    let low : place < length nodes = omega (arith, c.loop-place-test.true, c.loop-place.auto.nodes) in
    come_on (Resumes shown epoch) place c.args.nodes.now nodes (get_or nodes place c.index-nodes-place.result) c.resume_target.new.node low
    (slice_get-get_or nodes place c.index-nodes-place.result low) c.loop-place.invariant
    (ok_then c.resume_target.result (sym c.is_err.ensures.value ∙ c.if-is_err.false) c.resume_target.ensures.done)

pub returns-clause-done : goal.returns-clause-done
returns-clause-done g c =
    all_came (Resumes g.D.Disk.shown c.args.epoch) c.loop-place.place c.args.nodes.now c.loop-place.nodes (omega (arith, c.loop-place-test.false, c.loop-place.auto.place-end)) c.loop-place.invariant
