use Rattle.std.proofs.Common.{◌∙◌, ap, take, arith}
use Rattle.byte_grammar.specs.Grammar.{judge}
use Rattle.byte_grammar.proofs.Judging.{judge_cut}
use Rattle.update_record.proofs.decoder.verdict_on.Goals as goal

pub returns : goal.returns
returns g c =
    let l = g.P.Position.LIMIT in
    let front = c.front_of-front.ensures ∙ ap (λ n. take n c.args.bytes.now) c.LIMIT.ensures in
    c.scan-verdict.ensures.verdict ∙ ap (λ x. judge l x 0 c.front_of-front.result.now) c.start.ensures ∙ ap (λ x. judge l g.P.Position.whole 0 x) front ∙ judge_cut l g.P.Position.whole 0 l c.args.bytes.now (omega arith)
