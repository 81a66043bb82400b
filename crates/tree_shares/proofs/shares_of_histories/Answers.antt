use Rattle.tree_shares.proofs.Histories.{shares_of_histories}
use Rattle.tree_shares.proofs.shares_of_histories.Goals as goal

pub returns : goal.returns
returns c = record { shares = shares_of_histories }
