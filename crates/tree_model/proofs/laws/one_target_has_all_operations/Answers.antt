use Rattle.tree_model.proofs.OneTarget.{on_one}
use Rattle.tree_model.proofs.laws.one_target_has_all_operations.Goals as goal

pub returns : goal.returns
returns c = record { one = on_one }
