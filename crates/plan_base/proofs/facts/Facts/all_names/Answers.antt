use Rattle.std.proofs.Common.{◌≡◌, ◌-◌, ◌+◌, suc, List, ◌++◌, Ok, sym, ap, ◌∙◌, arith, subst, add-one}
use Rattle.std.proofs.lemmas.Result.{err_from_is_err_and}
use Rattle.plan_base.specs.Stops.{◌>>=◌, Halts}
use Rattle.plan_base.specs.Listed.{Entry}
use Rattle.plan_base.specs.Asks.{names_from}
use Rattle.plan_base.proofs.Collected.{part_more, part_stops, parts_ended}
use Rattle.plan_base.proofs.facts.Facts.all_names.Goals as goal

pub returns-in_err-names : goal.returns-in_err-names
returns-in_err-names c =
    let i = c.loop-part.part in
    let n = c.parts_of-parts.result in
    let e : n - i ≡ suc (n - (i + 1)) = omega (arith, c.loop-part-test.true) in
    let p = err_from_is_err_and c.from_residual.result c.from_residual.ensures.1 in
    rw (p.1, p.2) (subst (Halts c.in_err-names.field-0.0) (c.loop-part.invariant ∙ ap (λ m. names_from c.args.self.now c.args.fid c.args.layout 0 m) c.parts_of-parts.ensures)
    (part_stops c.args.self.now c.args.fid c.args.layout i (n - i) (n - (i + 1)) c.loop-part.entries c.in_err-names.field-0.0 e c.in_err-names.ensures))

pub loop-part-preserved : goal.loop-part-preserved
loop-part-preserved c =
    let i = c.loop-part.part in
    let n = c.parts_of-parts.result in
    let e : n - i ≡ suc (n - (i + 1)) = omega (arith, c.loop-part-test.true) in
    ap (λ (es : List Entry). names_from c.args.self.now c.args.fid c.args.layout (i + 1) (n - (i + 1)) >>= (λ more. Ok (es ++ more))) c.in_ok-extend.ensures
    ∙ part_more c.args.self.now c.args.fid c.args.layout i (i + 1) (n - i) (n - (i + 1)) c.loop-part.entries _ e (add-one i) c.in_ok-names.ensures
    ∙ c.loop-part.invariant

pub returns : goal.returns
returns c =
    let i = c.loop-part.part in
    let n = c.parts_of-parts.result in
    let e : n - i ≡ 0 = omega (arith, c.loop-part-test.false) in
    ap (λ m. names_from c.args.self.now c.args.fid c.args.layout 0 m) (sym c.parts_of-parts.ensures)
    ∙ sym c.loop-part.invariant ∙ parts_ended c.args.self.now c.args.fid c.args.layout i (n - i) c.loop-part.entries e
