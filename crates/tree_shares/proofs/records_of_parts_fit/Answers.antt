use Rattle.tree_shares.proofs.Parting.{parts_fit, records_short}
use Rattle.tree_shares.proofs.records_of_parts_fit.Goals as goal

pub returns : goal.returns
returns c = record { fit = parts_fit; short = records_short }
