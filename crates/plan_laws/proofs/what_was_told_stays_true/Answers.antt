use Rattle.plan_laws.proofs.Telling.{still_true}
use Rattle.plan_laws.proofs.what_was_told_stays_true.Goals as goal

pub returns : goal.returns
returns c = still_true
