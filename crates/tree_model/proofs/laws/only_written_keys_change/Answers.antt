use Rattle.tree_model.proofs.Agreement.{only_written}
use Rattle.tree_model.proofs.laws.only_written_keys_change.Goals as goal

pub returns : goal.returns
returns c = record { stays = only_written }
