use Rattle.target_state.proofs.Indexing.{appended_listed, empty_listed}
use Rattle.target_state.proofs.indexed.IndexedLog.append.Goals as goal

pub invariant_of-self-in-Ok : goal.invariant_of-self-in-Ok
invariant_of-self-in-Ok c =
    appended_listed c.self.inside.live c.note.new.live c.self.inside.log c.append.new.self c.in_ok-index.index c.args.payload.now c.self.invariant c.in_ok-index.ensures.ok c.in_ok-index.ensures.index c.in-Ok.ensures

pub invariant_of-self-in-Err : goal.invariant_of-self-in-Err
invariant_of-self-in-Err c = empty_listed c.clear-in-Err.new.self c.clear.new.self c.clear-in-Err.ensures.empty c.clear.ensures
