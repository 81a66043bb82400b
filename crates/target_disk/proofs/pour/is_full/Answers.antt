use Rattle.target_disk.proofs.Drafting.{full_when}
use Rattle.target_disk.proofs.pour.is_full.Goals as goal

pub returns-in-Some : goal.returns-in-Some
returns-in-Some c = full_when c.args.book.now c.in-Some.draft c.requires c.in-Some.is
