use Rattle.plan_settles.proofs.Settled.{answers_settle}
use Rattle.plan_settles.proofs.answers_settle.Goals as goal

pub returns : goal.returns
returns c = answers_settle
