use Rattle.std.proofs.lemmas.Result.{err_from_is_err_and}
use Rattle.byte_grammar.specs.Values.{many}
use Rattle.byte_grammar.proofs.Loop.{goes_on, ends, is_done}
use Rattle.out_update.specs.Values.{param_value}
use Rattle.out_update.proofs.value.params_of.Goals as goal

pub returns-in_err-param : goal.returns-in_err-param
returns-in_err-param c =
    let p = err_from_is_err_and c.from_residual.result c.from_residual.ensures.1 in
    rw (p.1, p.2) (ends param_value c.in_err-param.field-0.0 c.loop.params c.args.count c.loop.counter c.loop.rest.now (many param_value c.args.count c.args.bytes.now) c.loop-test.true c.in_err-param.ensures c.loop.invariant)

pub loop-preserved : goal.loop-preserved
loop-preserved c =
    rw c.in_ok-push.ensures.ok (goes_on param_value c.loop.params c.args.count c.loop.counter c.loop.rest.now c.in_ok-param.param c.in_ok-param.after.now (many param_value c.args.count c.args.bytes.now) c.loop-test.true c.in_ok-param.ensures c.loop.invariant)

pub returns : goal.returns
returns c = is_done param_value c.loop.params c.args.count c.loop.counter c.loop.rest.now (many param_value c.args.count c.args.bytes.now) c.loop-test.false c.loop.invariant
