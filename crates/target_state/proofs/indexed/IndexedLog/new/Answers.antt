use Rattle.target_state.proofs.Indexing.{empty_listed}
use Rattle.target_state.proofs.indexed.IndexedLog.new.Goals as goal

pub invariant_of-result : goal.invariant_of-result
invariant_of-result c = empty_listed c.new-2.result c.in_ok-new.field-0 c.new-2.ensures.empty c.in_ok-new.ensures
