use Rattle.state_image.proofs.Staying.{own_cancelled}
use Rattle.state_image.proofs.laws.a_log_stays_own_when_cancelled.Goals as goal

pub returns : goal.returns
returns c = own_cancelled
