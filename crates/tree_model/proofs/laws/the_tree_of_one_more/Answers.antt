use Rattle.tree_model.specs.Tree.{base}
use Rattle.tree_model.proofs.Histories.{tree_from-append, tree_from-push}
use Rattle.tree_model.proofs.laws.the_tree_of_one_more.Goals as goal

pub returns : goal.returns
returns c = record {
  one_more = λ targets h i. tree_from-push targets base h i;
  appended = λ targets h k. tree_from-append targets base h k;
}
