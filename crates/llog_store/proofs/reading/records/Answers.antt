use Rattle.std.proofs.Common.{◌+◌, ◌-◌, arith}
use Rattle.std.proofs.lemmas.Result.{err_from_is_err_and}
use Rattle.llog_store.specs.Views.{piece_view, places_at}
use Rattle.llog_store.proofs.Loop.{goes_on, stops, ended, ends_badly, fails_so, is_last}
use Rattle.llog_store.proofs.reading.records.Goals as goal

pub returns-in_err-piece : goal.returns-in_err-piece
returns-in_err-piece c =
    let p = err_from_is_err_and c.from_residual.result c.from_residual.ensures.1 in
    let more = c.args.next - (c.loop-index.index + 1) in
    let read = c.in_err-piece.ensures more (is_last c.loop-index.index c.args.next c.loop-index-test.true) in
    rw (p.1, p.2) (fails_so c.in_err-piece.field-0.0 (places_at (c.args.next - 1) c.args.len 1 0 c.args.rest.now) (stops c.loop-index.places.items (c.args.next - c.loop-index.index) more c.args.len c.loop-index.index c.loop-index.lost c.loop-index.rest.now c.in_err-piece.field-0.0 _ (omega (arith, c.loop-index-test.true)) read c.loop-index.invariant))

pub loop-index-preserved : goal.loop-index-preserved
loop-index-preserved c =
    let more = c.args.next - (c.loop-index.index + 1) in
    let read = c.in_ok-piece.ensures more (is_last c.loop-index.index c.args.next c.loop-index-test.true) in
    rw (c.in_ok-lost.ensures.places, c.in_ok-lost.ensures.lost, c.at-place.ensures) (goes_on c.loop-index.places.items (c.args.next - c.loop-index.index) more c.args.len c.loop-index.index c.loop-index.lost c.loop-index.rest.now (piece_view c.in_ok-piece.piece) c.in_ok-piece.after.now _ (omega (arith, c.loop-index-test.true)) read c.loop-index.invariant)

pub returns-in_err-end : goal.returns-in_err-end
returns-in_err-end c =
    let p = err_from_is_err_and c.from_residual-in_err-end.result c.from_residual-in_err-end.ensures.1 in
    rw (p.1, p.2) (fails_so c.in_err-end.field-0.0 (places_at (c.args.next - 1) c.args.len 1 0 c.args.rest.now) (ends_badly c.loop-index.places.items (c.args.next - c.loop-index.index) c.args.len c.loop-index.index c.loop-index.lost c.loop-index.rest.now c.in_err-end.field-0.0 _ (omega (arith, c.loop-index-test.false)) c.in_err-end.ensures c.loop-index.invariant))

pub returns : goal.returns
returns c = ended c.loop-index.places.items (c.args.next - c.loop-index.index) c.args.len c.loop-index.index c.loop-index.lost c.loop-index.rest.now _ (omega (arith, c.loop-index-test.false)) c.in_ok-end.ensures c.loop-index.invariant
