use Rattle.std.proofs.Common.{◌≡◌, ◌-◌, ◌+◌, suc, sym, ap, ◌∙◌, arith}
use Rattle.tree_model.specs.Step.{walk_fault}
use Rattle.tree_model.proofs.Walks.{walk_root, walk_met, walk_end, walk_on}
use Rattle.tree_model.proofs.plain_tree.PlainTree.walk_fault.Goals as goal

pub returns-then-eq : goal.returns-then-eq
returns-then-eq c =
    sym (walk_root c.args.self.now.tree c.args.moved (1023 - c.loop-asked._asked) c.loop-asked.at (sym c.eq.ensures ∙ c.if-eq.true)) ∙ c.loop-asked.invariant

pub returns-then-eq-2 : goal.returns-then-eq-2
returns-then-eq-2 c =
    sym (walk_met c.args.self.now.tree c.args.moved (1023 - c.loop-asked._asked) c.loop-asked.at (sym c.eq.ensures ∙ c.if-eq.false) (sym c.eq-in-loop-asked.ensures ∙ c.if-eq-2.true))
    ∙ c.loop-asked.invariant

pub loop-asked-preserved : goal.loop-asked-preserved
loop-asked-preserved c =
    let n = c.loop-asked._asked in
    let e : 1023 - n ≡ suc (1023 - (n + 1)) = omega (arith, c.loop-asked-test.true) in
    ap (λ f. walk_fault c.args.self.now.tree c.args.moved (1023 - (n + 1)) f) c.parent_of-at.ensures
    ∙ sym (walk_on c.args.self.now.tree c.args.moved (1023 - n) (1023 - (n + 1)) c.loop-asked.at e (sym c.eq.ensures ∙ c.if-eq.false) (sym c.eq-in-loop-asked.ensures ∙ c.if-eq-2.false))
    ∙ c.loop-asked.invariant

pub returns-then-eq-3 : goal.returns-then-eq-3
returns-then-eq-3 c =
    sym (walk_root c.args.self.now.tree c.args.moved (1023 - c.loop-asked._asked) c.loop-asked.at (sym c.eq-2.ensures ∙ c.if-eq-3.true)) ∙ c.loop-asked.invariant

pub returns-then-eq-4 : goal.returns-then-eq-4
returns-then-eq-4 c =
    sym (walk_met c.args.self.now.tree c.args.moved (1023 - c.loop-asked._asked) c.loop-asked.at (sym c.eq-2.ensures ∙ c.if-eq-3.false) (sym c.eq-3.ensures ∙ c.if-eq-4.true))
    ∙ c.loop-asked.invariant

pub returns : goal.returns
returns c =
    let e : 1023 - c.loop-asked._asked ≡ 0 = omega (arith, c.loop-asked-test.false) in
    sym (walk_end c.args.self.now.tree c.args.moved (1023 - c.loop-asked._asked) c.loop-asked.at e (sym c.eq-2.ensures ∙ c.if-eq-3.false) (sym c.eq-3.ensures ∙ c.if-eq-4.false))
    ∙ c.loop-asked.invariant
