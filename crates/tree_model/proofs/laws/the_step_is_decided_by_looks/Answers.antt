use Rattle.tree_model.proofs.Deciding.{step_decided}
use Rattle.tree_model.proofs.laws.the_step_is_decided_by_looks.Goals as goal

pub returns : goal.returns
returns c = record { decided = step_decided }
