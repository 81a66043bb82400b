use Rattle.plan_parts.proofs.Decided.{decisions_are}
use Rattle.plan_parts.proofs.decisions_are_the_trees.Goals as goal

pub returns : goal.returns
returns c = decisions_are
