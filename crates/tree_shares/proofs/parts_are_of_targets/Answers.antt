use Rattle.tree_shares.proofs.Parting.{parts_of_targets, parts_are_on, home_takes_part}
use Rattle.tree_shares.proofs.Alike.{same_parts}
use Rattle.tree_shares.proofs.parts_are_of_targets.Goals as goal

pub returns : goal.returns
returns c = record { each = parts_of_targets; on = parts_are_on; home = home_takes_part; looks = same_parts }
