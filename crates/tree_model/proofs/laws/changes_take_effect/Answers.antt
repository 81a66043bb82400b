use Rattle.tree_model.proofs.Writing.{nodes_after_is, names_after_is, name_after_is, layouts_after_is, names_with}
use Rattle.tree_model.proofs.laws.changes_take_effect.Goals as goal

pub returns : goal.returns
returns c = record { nodes = nodes_after_is; names = names_after_is; name = name_after_is; layouts = layouts_after_is; others = names_with }
