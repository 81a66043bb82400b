use Rattle.plan_shares.proofs.Replies.{replies_are}
use Rattle.plan_shares.proofs.replies_are_the_trees.Goals as goal

pub returns : goal.returns
returns c = replies_are
