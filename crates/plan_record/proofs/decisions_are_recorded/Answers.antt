use Rattle.plan_record.proofs.Deciding.{decisions_are_recorded}
use Rattle.plan_record.proofs.decisions_are_recorded.Goals as goal

pub returns : goal.returns
returns c = decisions_are_recorded
