use Rattle.tree_model.proofs.Deciding.{changes_decided}
use Rattle.tree_model.proofs.laws.a_check_that_fails_leaves_no_change.Goals as goal

pub returns : goal.returns
returns c = record { changes = changes_decided }
