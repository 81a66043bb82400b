use Rattle.share_tree.proofs.Following.{attributes_follow}
use Rattle.share_tree.proofs.laws.one_list_of_attributes.Goals as goal

pub returns : goal.returns
returns c = record { follow = attributes_follow }
