use Rattle.std.proofs.Common.{◌∙◌, sym, ap, arith}
use Rattle.std.proofs.lemmas.List.{length-take-le}
use Rattle.byte_grammar.specs.declared.verdict.Verdict.TheVariants.{Done}
use Rattle.byte_grammar.proofs.Judging.{done_place, done_alone}
use Rattle.byte_grammar.proofs.feeder.built.Goals as goal

pub slice_bounds-build-end : goal.slice_bounds-build-end
slice_bounds-build-end g c = let b = done_place g.P.Position.LIMIT g.P.Position.whole 0 c.args.bytes.now c.args.end c.requires in sym (length-take-le c.args.end c.args.bytes.now (omega arith))

pub build-requires : goal.build-requires
build-requires g c =
    let b = done_place g.P.Position.LIMIT g.P.Position.whole 0 c.args.bytes.now c.args.end c.requires in
    done_alone g.P.Position.LIMIT g.P.Position.whole c.args.bytes.now c.args.end c.requires ∙ ap (λ n. Done n) (sym (length-take-le c.args.end c.args.bytes.now (omega arith)))
