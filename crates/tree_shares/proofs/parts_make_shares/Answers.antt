use Rattle.tree_shares.proofs.Histories.{shares_follow}
use Rattle.tree_shares.proofs.parts_make_shares.Goals as goal

pub returns : goal.returns
returns c = record { shares = shares_follow }
