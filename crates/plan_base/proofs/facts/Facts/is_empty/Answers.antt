use Rattle.std.proofs.Common.{◌≡◌, ◌-◌, ◌+◌, ◌==◌, ◌&&◌, suc, Bool, true, false, Ok, sym, ap, ◌∙◌, arith, subst, add-one}
use Rattle.std.proofs.lemmas.Result.{err_from_is_err_and}
use Rattle.plan_base.specs.Stops.{◌>>=◌, Halts}
use Rattle.plan_base.specs.Asks.{none_told}
use Rattle.plan_base.proofs.Empties.{one_more, stops_here, ended}
use Rattle.plan_base.proofs.facts.Facts.is_empty.Goals as goal
use Rattle.plan_base.proofs.facts.Facts.is_empty.Goals.{then-is_empty, else-is_empty}

pub returns-in_err-entries : goal.returns-in_err-entries
returns-in_err-entries c =
    let i = c.loop-index.index in
    let n = c.parts_of-parts.result in
    let e : n - i ≡ suc (n - (i + 1)) = omega (arith, c.loop-index-test.true) in
    let p = err_from_is_err_and c.from_residual.result c.from_residual.ensures.1 in
    rw (p.1, p.2) (subst (Halts c.in_err-entries.field-0.0) (c.loop-index.invariant ∙ ap (λ m. none_told c.args.self.now c.args.fid c.args.layout 0 m) c.parts_of-parts.ensures)
    (stops_here c.args.self.now c.args.fid c.args.layout i (n - i) (n - (i + 1)) c.loop-index.is_empty c.in_err-entries.field-0.0 e c.in_err-entries.ensures))

pub loop-index-preserved : goal.loop-index-preserved
loop-index-preserved c =
    let i = c.loop-index.index in
    let n = c.parts_of-parts.result in
    let e : n - i ≡ suc (n - (i + 1)) = omega (arith, c.loop-index-test.true) in
    let both : c.if-is_empty.is_empty ≡ (c.loop-index.is_empty && (c.in_ok-entries.entries == 0)) =
    elim c.if-is_empty.branch [
      | then-is_empty w ↦ w.is_empty-is ∙ sym (ap (λ b. b && (c.in_ok-entries.entries == 0)) w.if-is_empty.true)
      | else-is_empty w ↦ w.is_empty-is ∙ (w.if-is_empty.false ∙ sym (ap (λ b. b && (c.in_ok-entries.entries == 0)) w.if-is_empty.false))
    ] in
    ap (λ b. none_told c.args.self.now c.args.fid c.args.layout (i + 1) (n - (i + 1)) >>= (λ rest. Ok (b && rest))) both
    ∙ one_more c.args.self.now c.args.fid c.args.layout i (i + 1) (n - i) (n - (i + 1)) c.loop-index.is_empty c.in_ok-entries.entries e (add-one i) c.in_ok-entries.ensures
    ∙ c.loop-index.invariant

pub returns : goal.returns
returns c =
    let i = c.loop-index.index in
    let n = c.parts_of-parts.result in
    let e : n - i ≡ 0 = omega (arith, c.loop-index-test.false) in
    ap (λ m. none_told c.args.self.now c.args.fid c.args.layout 0 m) (sym c.parts_of-parts.ensures)
    ∙ sym c.loop-index.invariant ∙ ended c.args.self.now c.args.fid c.args.layout i (n - i) c.loop-index.is_empty e
