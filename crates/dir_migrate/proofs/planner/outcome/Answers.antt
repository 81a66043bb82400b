use Rattle.std.proofs.Common.{sym, subst, ◌∙◌}
use Rattle.tree_model.specs.declared.op.Op.{Op}
use Rattle.plan_base.specs.declared.outcome.Outcome.{Outcome}
use Rattle.plan_base.specs.Stops.{Reaches}
use Rattle.plan_base.specs.Planners.{reached}
use Rattle.dir_migrate.proofs.planner.outcome.Goals as goal

pub returns-in-Migrate : goal.returns-in-Migrate
returns-in-Migrate c =
    subst (λ (o : Op). Reaches (λ (x : Outcome). x) c.migrate.result (reached c.args.plan.now.targets c.args.plan.now.batch o c.args.plan.now.told))
    (sym c.in-Migrate.is ∙ c.op.ensures) c.migrate.ensures
