use Rattle.tree_model.proofs.Scenarios.{on_elsewhere, on_striped, on_create, on_migrate}
use Rattle.tree_model.proofs.worked.worked_targets.Goals as goal

pub returns : goal.returns
returns c = record { mkdir = on_elsewhere; striped = on_striped; create = on_create; migrate = on_migrate }
