use Rattle.target_disk.proofs.Opening.{settled_opens}
use Rattle.target_disk.proofs.laws.a_settled_disk_opens_so.Goals as goal

pub returns : goal.returns
returns c = settled_opens
