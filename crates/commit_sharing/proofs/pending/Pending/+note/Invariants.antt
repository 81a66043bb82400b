use Rattle.std.proofs.Common.{length}
use Rattle.commit_sharing.proofs.pending.Pending.+note.Given as goal

abbrev pub decreases-note : goal.decreases-note
decreases-note l = length l.written.now
