use Rattle.target_state.proofs.Ranging.{commit_stays}
use Rattle.target_state.proofs.ranges.a_committed_target_stays_in_range.Goals as goal

pub returns : goal.returns
returns c = commit_stays c.a_log_stays_own_when_packed.ensures
