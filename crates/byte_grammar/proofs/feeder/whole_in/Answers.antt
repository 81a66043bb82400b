use Rattle.std.proofs.Common.{◌∙◌, sym, ap, take}
use Rattle.byte_grammar.proofs.Streaming.{done_whole}
use Rattle.byte_grammar.proofs.feeder.whole_in.Goals as goal

pub returns-in_ok-built-in-Done : goal.returns-in_ok-built-in-Done
returns-in_ok-built-in-Done g c =
    let is = c.front_of-front.ensures ∙ ap (λ n. take n c.args.piece.now) c.LIMIT.ensures in
    done_whole g.P.Position.LIMIT g.P.Position.spells c.in_ok-built-in-Done.field-0 g.P.Position.whole (g.P.Position.grammar c.start.result) c.args.piece.now c.front_of-front.result.now c.in-Done.end is c.start.ensures (sym c.scan-verdict.ensures.verdict ∙ c.in-Done.is) c.in_ok-built-in-Done.ensures
