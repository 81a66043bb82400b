use Rattle.std.proofs.Common.{◌+◌, ◌-◌, arith}
use Rattle.std.proofs.lemmas.Result.{err_from_is_err_and}
use Rattle.state_image.proofs.Rounds.{goes_on, stops, ended}
use Rattle.state_image.proofs.payloads.payloads.Goals as goal

pub returns-in_err-maybe_payload : goal.returns-in_err-maybe_payload
returns-in_err-maybe_payload c =
    let next = c.args.log.now.next in
    let first = c.loop-record_index.record_index in
    let p = err_from_is_err_and c.from_residual.result c.from_residual.ensures.1 in
    rw (p.1, p.2)
    (stops c.args.cluster c.args.index c.args.log.now.entries first (next - first) (next - (first + 1)) _ c.in_err-maybe_payload.field-0.0 (omega (arith, c.loop-record_index-test.true, c.next-record_index-end.ensures.value)) c.in_err-maybe_payload.ensures c.loop-record_index.invariant)

pub loop-record_index-preserved : goal.loop-record_index-preserved
loop-record_index-preserved c =
    let next = c.args.log.now.next in
    let first = c.loop-record_index.record_index in
    goes_on c.args.cluster c.args.index c.args.log.now.entries first (next - first) (next - (first + 1)) _ (omega (arith, c.loop-record_index-test.true, c.next-record_index-end.ensures.value)) c.in_ok-maybe_payload.ensures c.loop-record_index.invariant

pub returns : goal.returns
returns c =
    let next = c.args.log.now.next in
    let first = c.loop-record_index.record_index in
    ended c.args.cluster c.args.index c.args.log.now.entries first (next - first) _ (omega (arith, c.loop-record_index-test.false, c.next-record_index-end.ensures.value)) c.loop-record_index.invariant
