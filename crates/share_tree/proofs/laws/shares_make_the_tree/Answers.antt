use Rattle.share_tree.proofs.Whole.{shares_make_tree}
use Rattle.share_tree.proofs.laws.shares_make_the_tree.Goals as goal

pub returns : goal.returns
returns c = record { tree = shares_make_tree }
