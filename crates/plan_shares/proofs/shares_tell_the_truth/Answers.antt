use Rattle.plan_shares.proofs.Sharing.{shares_tell}
use Rattle.plan_shares.proofs.shares_tell_the_truth.Goals as goal

pub returns : goal.returns
returns c = shares_tell
