use Rattle.update_coordinator.proofs.Due.{stamped}
use Rattle.update_coordinator.proofs.laws.the_stamp_is_above_each_clock.Goals as goal

pub returns : goal.returns
returns c = stamped
