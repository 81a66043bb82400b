use Rattle.target_disk.proofs.Opening.{settled_stands}
use Rattle.target_disk.proofs.laws.a_settled_disk_stands.Goals as goal

pub returns : goal.returns
returns c = settled_stands
