use Rattle.tree_model.proofs.Histories.{refused_stays}
use Rattle.tree_model.proofs.laws.a_refused_operation_changes_nothing.Goals as goal

pub returns : goal.returns
returns c = record { stays = refused_stays }
