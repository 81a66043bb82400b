use Rattle.state_image.proofs.Staying.{own_packed}
use Rattle.state_image.proofs.laws.a_log_stays_own_when_packed.Goals as goal

pub returns : goal.returns
returns c = own_packed
