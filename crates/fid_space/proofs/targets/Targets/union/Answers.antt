use Rattle.fid_space.proofs.Members.{member_union_bits}
use Rattle.fid_space.proofs.targets.Targets.union.Goals as goal

pub returns-clause-members : goal.returns-clause-members
returns-clause-members c = λ t. member_union_bits c.args.self c.self.inside.bits c.args.other c.other.inside.bits t c.self.view_is c.other.view_is
