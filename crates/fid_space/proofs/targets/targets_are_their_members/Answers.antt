use Rattle.fid_space.proofs.Members.{same_members, same_members_below}
use Rattle.fid_space.proofs.targets.targets_are_their_members.Goals as goal

pub returns-clause-all : goal.returns-clause-all
returns-clause-all c = same_members

pub returns-clause-below : goal.returns-clause-below
returns-clause-below c = same_members_below
