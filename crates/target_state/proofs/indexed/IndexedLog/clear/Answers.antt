use Rattle.target_state.proofs.Indexing.{empty_listed}
use Rattle.target_state.proofs.indexed.IndexedLog.clear.Goals as goal

pub invariant_of-self : goal.invariant_of-self
invariant_of-self c = empty_listed c.clear-2.new.self c.clear.new.self c.clear-2.ensures.empty c.clear.ensures
