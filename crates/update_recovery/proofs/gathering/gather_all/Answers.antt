use Rattle.std.proofs.Common.{◌<◌, length, get_or, refl, sym, ◌∙◌, arith}
use Rattle.std.proofs.lemmas.Option.{slice_get-get_or}
use Rattle.update_recovery.specs.Gathering.{is_down, Gathers, BreaksGathering, KeepsAll, stable_at}
use Rattle.update_recovery.proofs.Coming.{come_on, stopped_here, lost_here, told_next, disk_then, memory_then, none_set, none_at}
use Rattle.update_recovery.proofs.gathering.gather_all.Goals as goal

pub returns-in-Err-Disk-clause-stopped : goal.returns-in-Err-Disk-clause-stopped
returns-in-Err-Disk-clause-stopped g c =
    let targets = c.loop-place.targets in
    let place = c.loop-place.place in
    let m = get_or targets place c.index-targets-place.result in
    let low : place < length targets = omega (arith, c.loop-place-test.true, c.loop-place.auto.targets) in
    stopped_here (Gathers g.D.Disk.shown) place c.args.targets.now targets m c.gather_target.new.target low
    (slice_get-get_or targets place c.index-targets-place.result low) c.loop-place.invariant.0 (BreaksGathering g.D.Disk.shown) (disk_then (Unit {0}) c.in-Err-Disk.field-0 c.in-Err-Disk.field-0-is c.in-Err-Disk.ensures.disk)

pub returns-in-Err-Memory-clause-lost : goal.returns-in-Err-Memory-clause-lost
returns-in-Err-Memory-clause-lost g c =
    let targets = c.loop-place.targets in
    let place = c.loop-place.place in
    let m = get_or targets place c.index-targets-place.result in
    let low : place < length targets = omega (arith, c.loop-place-test.true, c.loop-place.auto.targets) in
    lost_here (Gathers g.D.Disk.shown) place c.args.targets.now targets m c.gather_target.new.target low
    (slice_get-get_or targets place c.index-targets-place.result low) c.loop-place.invariant.0 KeepsAll (λ k o. refl) (memory_then (Unit {0}) c.in-Err-Memory.field-0 c.in-Err-Memory.field-0-is c.in-Err-Memory.ensures.memory)

pub loop-place-preserved : goal.loop-place-preserved
loop-place-preserved g c =
    let targets = c.loop-place.targets in
    let place = c.loop-place.place in
    let m = get_or targets place c.index-targets-place.result in
    let low : place < length targets = omega (arith, c.loop-place-test.true, c.loop-place.auto.targets) in
    let was = slice_get-get_or targets place c.index-targets-place.result low in
    let come = c.loop-place.invariant.0 in (
      come_on (Gathers g.D.Disk.shown) place c.args.targets.now targets m c.gather_target.new.target low was come c.in-Ok.ensures.done,
      told_next stable_at place c.args.targets.now m c.loop-place.stable c.gather_target.new.stable c.args.stable.now (sym (come.after place (omega arith)) ∙ was) c.loop-place.invariant.1 c.in-Ok.ensures.told,
      λ up. none_set is_down targets place c.gather_target.new.target (c.loop-place.invariant.2 up) (c.in-Ok.ensures.up ∙ none_at is_down targets place c.index-targets-place.result low (c.loop-place.invariant.2 up)),
    )

pub returns-in-Err-Disk-clause-up : goal.returns-in-Err-Disk-clause-up
returns-in-Err-Disk-clause-up g c = λ up.
    let targets = c.loop-place.targets in
    let place = c.loop-place.place in
    let low : place < length targets = omega (arith, c.loop-place-test.true, c.loop-place.auto.targets) in
    let none = c.loop-place.invariant.2 up in
    none_set is_down targets place c.gather_target.new.target none (c.in-Err-Disk.ensures.up ∙ none_at is_down targets place c.index-targets-place.result low none)

pub returns-in-Err-Memory-clause-up : goal.returns-in-Err-Memory-clause-up
returns-in-Err-Memory-clause-up g c = λ up.
    let targets = c.loop-place.targets in
    let place = c.loop-place.place in
    let low : place < length targets = omega (arith, c.loop-place-test.true, c.loop-place.auto.targets) in
    let none = c.loop-place.invariant.2 up in
    none_set is_down targets place c.gather_target.new.target none (c.in-Err-Memory.ensures.up ∙ none_at is_down targets place c.index-targets-place.result low none)
