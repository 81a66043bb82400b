use Rattle.update_record.proofs.PartLaws.{members_are}
use Rattle.update_record.proofs.laws.targets_are_those_of_the_parts.Goals as goal

pub returns : goal.returns
returns c = members_are
