use Rattle.std.proofs.Common.{◌≡◌, ◌-◌, ◌+◌, suc, sym, ◌∙◌, arith}
use Rattle.std.proofs.lemmas.Result.{err_from_is_err_and}
use Rattle.cross_rename.proofs.Onward.{one_further, at_root, at_moved, at_question, at_last}
use Rattle.cross_rename.proofs.walks.walk.Goals as goal

pub returns-then-eq : goal.returns-then-eq
returns-then-eq c = record {
  passes = at_root c.args.facts.now _ (sym c.eq.ensures ∙ c.if-eq.true) c.loop-asked.invariant.way;
  kept = c.loop-asked.invariant.kept;
}

pub returns-then-eq-2 : goal.returns-then-eq-2
returns-then-eq-2 c = record {
  passes = at_moved c.args.facts.now _ (sym c.eq.ensures ∙ c.if-eq.false) (sym c.eq-in-loop-asked.ensures ∙ c.if-eq-2.true) c.loop-asked.invariant.way;
  kept = c.loop-asked.invariant.kept;
}

pub loop-asked-preserved : goal.loop-asked-preserved
loop-asked-preserved c =
    let n = c.loop-asked.asked in
    let left = c.begun-first.result.left in
    let e : left - n ≡ suc (left - (n + 1)) = omega (arith, c.loop-asked-test.true) in
    record {
      way = one_further c.args.facts.now c.args.moved c.args.from c.loop-asked.at _ (left - n) (left - (n + 1)) _ e (sym c.eq.ensures ∙ c.if-eq.false) (sym c.eq-in-loop-asked.ensures ∙ c.if-eq-2.false)
          c.in_ok-node.ensures c.parent_of-at.ensures c.loop-asked.invariant.way;
      kept = c.loop-asked.invariant.way;
    }

pub returns-in_err-node : goal.returns-in_err-node
returns-in_err-node c =
    let n = c.loop-asked.asked in
    let left = c.begun-first.result.left in
    let e : left - n ≡ suc (left - (n + 1)) = omega (arith, c.loop-asked-test.true) in
    let p = err_from_is_err_and c.from_residual.result c.from_residual.ensures.1 in
    record {
      passes = rw (p.1, p.2) (at_question c.args.facts.now _ (left - (n + 1)) c.in_err-node.field-0.0 e (sym c.eq.ensures ∙ c.if-eq.false) (sym c.eq-in-loop-asked.ensures ∙ c.if-eq-2.false) c.in_err-node.ensures
          c.loop-asked.invariant.way);
      kept = c.loop-asked.invariant.way;
    }

pub returns : goal.returns
returns c =
    let e : c.begun-first.result.left - c.loop-asked.asked ≡ 0 = omega (arith, c.loop-asked-test.false) in
    record {
      passes = at_last c.args.facts.now _ _ e (c.last.ensures c.args.facts.now) c.loop-asked.invariant.way;
      kept = c.loop-asked.invariant.kept;
    }
