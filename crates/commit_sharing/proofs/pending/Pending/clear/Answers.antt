use Rattle.commit_sharing.proofs.Writers.{no_requests}
use Rattle.commit_sharing.proofs.pending.Pending.clear.Goals as goal

pub invariant_of-self : goal.invariant_of-self
invariant_of-self c = no_requests _ c.clear.ensures.empty
