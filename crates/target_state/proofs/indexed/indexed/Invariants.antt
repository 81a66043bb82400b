use Rattle.std.proofs.Common.{◌-◌}
use Rattle.target_state.proofs.Indexing.{GoesOn}
use Rattle.target_state.proofs.indexed.indexed.Given as goal

abbrev pub invariant-loop-index : goal.invariant-loop-index
invariant-loop-index l = GoesOn l.live l.from l.log

abbrev pub decreases-loop-index : goal.decreases-loop-index
decreases-loop-index l = l.log.next - l.from
