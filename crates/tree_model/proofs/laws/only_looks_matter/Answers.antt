use Rattle.tree_model.proofs.Agreement.{same_looks, same_change}
use Rattle.tree_model.proofs.Placing.{same_on}
use Rattle.tree_model.proofs.laws.only_looks_matter.Goals as goal

pub returns : goal.returns
returns c = record { decision = same_looks; targets = same_on; change = same_change }
