use Rattle.target_state.proofs.Ranging.{execute_stays}
use Rattle.target_state.proofs.ranges.an_executing_target_stays_in_range.Goals as goal

pub returns : goal.returns
returns c = execute_stays c.a_log_stays_own_when_appended.ensures
