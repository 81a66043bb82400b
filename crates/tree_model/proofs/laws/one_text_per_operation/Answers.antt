use Rattle.tree_model.proofs.OneOp.{one_op}
use Rattle.tree_model.proofs.laws.one_text_per_operation.Goals as goal

pub returns : goal.returns
returns c = record { one = one_op }
