use Rattle.target_state.proofs.Ranging.{renew_stays}
use Rattle.target_state.proofs.ranges.a_renewed_target_stays_in_range.Goals as goal

pub returns : goal.returns
returns c = renew_stays
