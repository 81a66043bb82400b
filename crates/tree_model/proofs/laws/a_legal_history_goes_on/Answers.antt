use Rattle.tree_model.specs.Tree.{base}
use Rattle.tree_model.proofs.Histories.{legal_from-push}
use Rattle.tree_model.proofs.laws.a_legal_history_goes_on.Goals as goal

pub returns : goal.returns
returns c = record { more = λ targets h i. legal_from-push targets base h i }
