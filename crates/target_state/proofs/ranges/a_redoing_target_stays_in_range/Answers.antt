use Rattle.target_state.proofs.Ranging.{redo_stays}
use Rattle.target_state.proofs.ranges.a_redoing_target_stays_in_range.Goals as goal

pub returns : goal.returns
returns c = redo_stays c.a_log_stays_own_when_appended.ensures
