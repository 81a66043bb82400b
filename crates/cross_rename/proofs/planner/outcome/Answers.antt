use Rattle.std.proofs.Common.{sym, subst, ◌∙◌}
use Rattle.tree_model.specs.declared.op.Op.{Op}
use Rattle.plan_base.specs.declared.outcome.Outcome.{Outcome}
use Rattle.plan_base.specs.Stops.{Reaches}
use Rattle.plan_base.specs.Planners.{reached}
use Rattle.cross_rename.proofs.planner.outcome.Goals as goal

pub returns-in-Rename : goal.returns-in-Rename
returns-in-Rename c = record {
  reaches = subst (λ (o : Op). Reaches (λ (x : Outcome). x) c.rename.result (reached c.args.plan.now.targets c.args.plan.now.batch o c.args.plan.now.told))
      (sym c.in-Rename.is ∙ c.op.ensures) c.rename.ensures.reaches;
  walked = c.rename.ensures.walked;
}
