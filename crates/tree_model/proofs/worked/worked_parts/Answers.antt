use Rattle.tree_model.proofs.Scenarios.{kept, lost, dependent, illegal}
use Rattle.tree_model.proofs.worked.worked_parts.Goals as goal

pub returns : goal.returns
returns c = record { kept = kept; lost = lost; dependent = dependent; illegal = illegal }
