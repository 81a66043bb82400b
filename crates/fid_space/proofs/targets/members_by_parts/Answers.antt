use Rattle.fid_space.proofs.Members.{member_none, member_joined_test, member_union, member_minus, member_covers}
use Rattle.fid_space.proofs.targets.members_by_parts.Goals as goal

pub returns-clause-none : goal.returns-clause-none
returns-clause-none c = member_none

pub returns-clause-joined : goal.returns-clause-joined
returns-clause-joined c = member_joined_test

pub returns-clause-union : goal.returns-clause-union
returns-clause-union c = member_union

pub returns-clause-minus : goal.returns-clause-minus
returns-clause-minus c = member_minus

pub returns-clause-covers : goal.returns-clause-covers
returns-clause-covers c = member_covers
