use Rattle.std.proofs.Common.{refl, sym, ◌∙◌}
use Rattle.plan_base.proofs.Walks.{walk_root, walk_met, walk_end}
use Rattle.cross_rename.proofs.walks.last.Goals as goal

pub returns-then-eq : goal.returns-then-eq
returns-then-eq c = λ told. walk_root told c.args.moved 0 c.args.at (sym c.eq.ensures ∙ c.if-eq.true)

pub returns-then-eq-2 : goal.returns-then-eq-2
returns-then-eq-2 c = λ told. walk_met told c.args.moved 0 c.args.at (sym c.eq.ensures ∙ c.if-eq.false) (sym c.eq-2.ensures ∙ c.if-eq-2.true)

pub returns : goal.returns
returns c = λ told. walk_end told c.args.moved 0 c.args.at refl (sym c.eq.ensures ∙ c.if-eq.false) (sym c.eq-2.ensures ∙ c.if-eq-2.false)
