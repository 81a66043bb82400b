use Rattle.target_state.proofs.Ranging.{pack_stays}
use Rattle.target_state.proofs.ranges.a_packed_target_stays_in_range.Goals as goal

pub returns : goal.returns
returns c = pack_stays c.a_log_stays_own_when_packed.ensures
