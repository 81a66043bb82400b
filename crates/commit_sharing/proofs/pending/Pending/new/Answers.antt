use Rattle.commit_sharing.proofs.Writers.{no_requests}
use Rattle.commit_sharing.proofs.pending.Pending.new.Goals as goal

pub invariant_of-result : goal.invariant_of-result
invariant_of-result c = no_requests _ c.new.ensures.empty
