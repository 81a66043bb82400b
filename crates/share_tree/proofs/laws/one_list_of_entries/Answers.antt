use Rattle.share_tree.proofs.Following.{entries_follow}
use Rattle.share_tree.proofs.laws.one_list_of_entries.Goals as goal

pub returns : goal.returns
returns c = record { follow = entries_follow }
