use Rattle.std.proofs.Common.{◌+◌, ◌-◌, List, Option, ap, ◌∙◌, arith}
use Rattle.std.proofs.lemmas.Result.{err_from_is_err_and}
use Rattle.reply_cache.specs.declared.seats.Seat.{Seat}
use Rattle.state_image.specs.FrontReading.{taken_at}
use Rattle.state_image.proofs.Loops.{goes_on, stops, ended}
use Rattle.state_image.proofs.reading.read_taken.Goals as goal

pub returns-in_err-taken : goal.returns-in_err-taken
returns-in_err-taken c =
    let p = err_from_is_err_and c.from_residual.result c.from_residual.ensures.1 in
    rw (p.1, p.2)
    (stops c.args.len (c.args.count - c.loop-done._done) (c.args.count - (c.loop-done._done + 1)) c.loop-done.least c.loop-done.seats c.loop-done.rest.now _ c.in_err-taken.field-0.0 (omega (arith, c.loop-done-test.true)) c.in_err-taken.ensures.value c.loop-done.invariant)

pub loop-done-preserved : goal.loop-done-preserved
loop-done-preserved c =
    ap (λ (s : List (Option Seat)). taken_at c.args.len (c.args.count - (c.loop-done._done + 1)) (c.in_ok-taken.taken.client + 1) s c.in_ok-taken.after.now) c.put.ensures
    ∙ goes_on c.args.len (c.args.count - c.loop-done._done) (c.args.count - (c.loop-done._done + 1)) c.loop-done.least c.loop-done.seats c.loop-done.rest.now _ c.in_ok-taken.taken c.in_ok-taken.after.now (omega (arith, c.loop-done-test.true)) c.in_ok-taken.ensures.value c.loop-done.invariant

pub returns : goal.returns
returns c = ended c.args.len (c.args.count - c.loop-done._done) c.loop-done.least c.loop-done.seats c.loop-done.rest.now _ (omega (arith, c.loop-done-test.false)) c.loop-done.invariant
