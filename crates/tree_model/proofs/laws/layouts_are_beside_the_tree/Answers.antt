use Rattle.tree_model.specs.Keys.{laid_base}
use Rattle.tree_model.proofs.Agreement.{laid_beside}
use Rattle.tree_model.proofs.laws.layouts_are_beside_the_tree.Goals as goal

pub returns : goal.returns
returns c = record { beside = λ targets history. laid_beside targets laid_base history }
