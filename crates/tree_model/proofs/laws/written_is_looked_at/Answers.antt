use Rattle.tree_model.proofs.Looking.{written_looked}
use Rattle.tree_model.proofs.laws.written_is_looked_at.Goals as goal

pub returns : goal.returns
returns c = record { looked = written_looked }
