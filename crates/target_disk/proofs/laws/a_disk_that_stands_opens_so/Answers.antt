use Rattle.target_disk.proofs.Opening.{stands_opens}
use Rattle.target_disk.proofs.laws.a_disk_that_stands_opens_so.Goals as goal

pub returns : goal.returns
returns c = stands_opens
