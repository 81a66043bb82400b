use Rattle.std.proofs.Common.{◌<◌, ◌++◌, ℕ, List, length, get_or, refl, sym, ap, ◌∙◌, arith, inl, inr}
use Rattle.std.proofs.lemmas.Option.{slice_get-get_or}
use Rattle.update_recovery.specs.Steps.{told}
use Rattle.update_recovery.specs.Redoing.{RedoesAt, BreaksRedoing, KeepsDisk, redone_at}
use Rattle.update_recovery.proofs.Coming.{come_on, stopped_here, lost_here, told_next, ok_then, disk_then, memory_then}
use Rattle.update_recovery.proofs.redoing.redo_all.Goals as goal

pub returns-then-is_err-clause-lost : goal.returns-then-is_err-clause-lost
returns-then-is_err-clause-lost g c =
    let b = c.args.bounds.now in
    let nodes = c.loop-place.nodes in
    let place = c.loop-place.place in
    let m = get_or nodes place c.index-nodes-place.result in
    let low : place < length nodes = omega (arith, c.loop-place-test.true, c.loop-place.auto.nodes) in
    lost_here (RedoesAt g.D.Disk.shown b.epoch b.marks.items c.args.union.now.keys) place c.args.nodes.now nodes m c.redo_target.new.node low
    (slice_get-get_or nodes place c.index-nodes-place.result low) c.loop-place.invariant.0 KeepsDisk (λ k o. refl) (inl c.in-Ok.ensures.done)

pub returns-in-Err-Disk-clause-stopped : goal.returns-in-Err-Disk-clause-stopped
returns-in-Err-Disk-clause-stopped g c =
    let b = c.args.bounds.now in
    let nodes = c.loop-place.nodes in
    let place = c.loop-place.place in
    let m = get_or nodes place c.index-nodes-place.result in
    let low : place < length nodes = omega (arith, c.loop-place-test.true, c.loop-place.auto.nodes) in
    stopped_here (RedoesAt g.D.Disk.shown b.epoch b.marks.items c.args.union.now.keys) place c.args.nodes.now nodes m c.redo_target.new.node low
    (slice_get-get_or nodes place c.index-nodes-place.result low) c.loop-place.invariant.0 (BreaksRedoing g.D.Disk.shown b.epoch b.marks.items c.args.union.now.keys) (disk_then (List ℕ) c.in-Err-Disk.field-0 c.in-Err-Disk.field-0-is c.in-Err-Disk.ensures.disk)

pub returns-in-Err-Memory-clause-lost : goal.returns-in-Err-Memory-clause-lost
returns-in-Err-Memory-clause-lost g c =
    let b = c.args.bounds.now in
    let nodes = c.loop-place.nodes in
    let place = c.loop-place.place in
    let m = get_or nodes place c.index-nodes-place.result in
    let low : place < length nodes = omega (arith, c.loop-place-test.true, c.loop-place.auto.nodes) in
    lost_here (RedoesAt g.D.Disk.shown b.epoch b.marks.items c.args.union.now.keys) place c.args.nodes.now nodes m c.redo_target.new.node low
    (slice_get-get_or nodes place c.index-nodes-place.result low) c.loop-place.invariant.0 KeepsDisk (λ k o. refl) (inr (memory_then (List ℕ) c.in-Err-Memory.field-0 c.in-Err-Memory.field-0-is c.in-Err-Memory.ensures.memory))

pub loop-place-preserved : goal.loop-place-preserved
loop-place-preserved g c =
    let b = c.args.bounds.now in
    let ks = c.args.union.now.keys in
    let nodes = c.loop-place.nodes in
    let place = c.loop-place.place in
    let m = get_or nodes place c.index-nodes-place.result in
    let low : place < length nodes = omega (arith, c.loop-place-test.true, c.loop-place.auto.nodes) in
    let was = slice_get-get_or nodes place c.index-nodes-place.result low in
    let come = c.loop-place.invariant.0 in (
      come_on (RedoesAt g.D.Disk.shown b.epoch b.marks.items ks) place c.args.nodes.now nodes m c.redo_target.new.node low was come c.in-Ok.ensures.done,
      told_next (redone_at b.epoch b.marks.items ks) place c.args.nodes.now m c.loop-place.redone c.tell.new.self c.args.redone.now (sym (come.after place (omega arith)) ∙ was) c.loop-place.invariant.1
          (ok_then c.tell.result (sym c.is_err.ensures.value ∙ c.if-is_err.false) c.tell.ensures.ok ∙ ap (λ (ns : List ℕ). c.loop-place.redone ++ told place ns) c.in-Ok.ensures.told),
    )
