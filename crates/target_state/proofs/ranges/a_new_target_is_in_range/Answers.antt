use Rattle.target_state.proofs.Spelling.{first_in_range}
use Rattle.target_state.proofs.ranges.a_new_target_is_in_range.Goals as goal

pub returns : goal.returns
returns c = first_in_range
