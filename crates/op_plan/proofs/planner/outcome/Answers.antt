use Rattle.std.proofs.Common.{sym, subst, ◌∙◌}
use Rattle.tree_model.specs.declared.op.Op.{Op}
use Rattle.plan_base.specs.declared.outcome.Outcome.{Outcome}
use Rattle.plan_base.specs.Stops.{Reaches}
use Rattle.plan_base.specs.Planners.{reached}
use Rattle.op_plan.proofs.planner.outcome.Goals as goal

pub returns-in-Rmdir : goal.returns-in-Rmdir
returns-in-Rmdir c =
    subst (λ (o : Op). Reaches (λ (x : Outcome). x) c.rmdir.result (reached c.args.plan.now.targets c.args.plan.now.batch o c.args.plan.now.told))
    (sym c.in-Rmdir.is ∙ c.op.ensures) c.rmdir.ensures

pub returns-in-Lookup : goal.returns-in-Lookup
returns-in-Lookup c =
    subst (λ (o : Op). Reaches (λ (x : Outcome). x) c.lookup.result (reached c.args.plan.now.targets c.args.plan.now.batch o c.args.plan.now.told))
    (sym c.in-Lookup.is ∙ c.op.ensures) c.lookup.ensures

pub returns-in-Link : goal.returns-in-Link
returns-in-Link c =
    subst (λ (o : Op). Reaches (λ (x : Outcome). x) c.link.result (reached c.args.plan.now.targets c.args.plan.now.batch o c.args.plan.now.told))
    (sym c.in-Link.is ∙ c.op.ensures) c.link.ensures

pub returns-in-Unlink : goal.returns-in-Unlink
returns-in-Unlink c =
    subst (λ (o : Op). Reaches (λ (x : Outcome). x) c.unlink.result (reached c.args.plan.now.targets c.args.plan.now.batch o c.args.plan.now.told))
    (sym c.in-Unlink.is ∙ c.op.ensures) c.unlink.ensures
