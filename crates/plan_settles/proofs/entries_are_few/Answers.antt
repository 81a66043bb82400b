use Rattle.plan_settles.proofs.Counts.{entries_are_few}
use Rattle.plan_settles.proofs.entries_are_few.Goals as goal

pub returns : goal.returns
returns c = entries_are_few
