use Rattle.fid_space.proofs.Members.{member_covers_bits}
use Rattle.fid_space.proofs.targets.Targets.covers.Goals as goal

pub returns-clause-members : goal.returns-clause-members
returns-clause-members c = member_covers_bits c.args.self c.self.inside.bits c.args.other c.other.inside.bits c.self.view_is c.other.view_is
