use Rattle.std.proofs.lemmas.Result.{err_from_is_err_and}
use Rattle.byte_grammar.specs.Values.{many}
use Rattle.byte_grammar.proofs.Loop.{goes_on, ends, is_done}
use Rattle.out_update.specs.Values.{update_value}
use Rattle.out_update.proofs.value.updates_of.Goals as goal

pub returns-in_err-update : goal.returns-in_err-update
returns-in_err-update c =
    let p = err_from_is_err_and c.from_residual.result c.from_residual.ensures.1 in
    rw (p.1, p.2) (ends update_value c.in_err-update.field-0.0 c.loop.updates c.args.count c.loop.counter c.loop.rest.now (many update_value c.args.count c.args.bytes.now) c.loop-test.true c.in_err-update.ensures c.loop.invariant)

pub loop-preserved : goal.loop-preserved
loop-preserved c =
    rw c.in_ok-push.ensures.ok (goes_on update_value c.loop.updates c.args.count c.loop.counter c.loop.rest.now c.in_ok-update.update c.in_ok-update.after.now (many update_value c.args.count c.args.bytes.now) c.loop-test.true c.in_ok-update.ensures c.loop.invariant)

pub returns : goal.returns
returns c = is_done update_value c.loop.updates c.args.count c.loop.counter c.loop.rest.now (many update_value c.args.count c.args.bytes.now) c.loop-test.false c.loop.invariant
