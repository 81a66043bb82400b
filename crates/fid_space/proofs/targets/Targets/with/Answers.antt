use Rattle.fid_space.proofs.Members.{member_shifted}
use Rattle.fid_space.proofs.targets.Targets.with.Goals as goal

pub returns-clause-members : goal.returns-clause-members
returns-clause-members c = λ t. member_shifted c.args.self c.self.inside.bits t c.args.target c.self.view_is c.requires
