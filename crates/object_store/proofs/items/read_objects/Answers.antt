use Rattle.std.proofs.Common.{◌+◌, ◌-◌, Some, ap, ◌∙◌, arith}
use Rattle.std.proofs.lemmas.Result.{err_from_is_err_and}
use Rattle.object_store.specs.Objects.{ObjectMap}
use Rattle.object_store.specs.ImageReading.{object_at, items_at}
use Rattle.object_store.proofs.Loops.{goes_on, ended, fails_on}
use Rattle.object_store.proofs.items.read_objects.Goals as goal

pub returns-in_err-fid : goal.returns-in_err-fid
returns-in_err-fid c =
    let p = err_from_is_err_and c.from_residual.result c.from_residual.ensures.1 in
    rw (p.1, p.2)
    (fails_on (object_at c.args.len) (c.args.count - c.loop-done._done) (c.args.count - (c.loop-done._done + 1)) c.loop-done.last c.loop-done.objects c.loop-done.rest.now c.in_err-fid.field-0.0 _ (omega (arith, c.loop-done-test.true)) c.in_err-fid.ensures c.loop-done.invariant)

pub loop-done-preserved : goal.loop-done-preserved
loop-done-preserved c =
    ap (λ (m : ObjectMap). items_at (object_at c.args.len) (c.args.count - (c.loop-done._done + 1)) (Some c.in_ok-fid.fid) m c.in_ok-fid.after.now) c.in_ok-put.ensures.ok
    ∙ goes_on (object_at c.args.len) (c.args.count - c.loop-done._done) (c.args.count - (c.loop-done._done + 1)) c.loop-done.last c.loop-done.objects c.loop-done.rest.now c.in_ok-fid.after.now c.in_ok-fid.fid c.in_ok-fid.object _ (omega (arith, c.loop-done-test.true)) c.in_ok-fid.ensures c.loop-done.invariant

pub returns : goal.returns
returns c = ended (object_at c.args.len) (c.args.count - c.loop-done._done) c.loop-done.last c.loop-done.objects c.loop-done.rest.now _ (omega (arith, c.loop-done-test.false)) c.loop-done.invariant
