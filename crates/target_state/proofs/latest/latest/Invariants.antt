use Rattle.target_state.proofs.Backwards.{GoesOn, left}
use Rattle.target_state.proofs.latest.latest.Given as goal

abbrev pub invariant-loop-record : goal.invariant-loop-record
invariant-loop-record l = GoesOn l.live l.waiting l.own l.end

abbrev pub decreases-loop-record : goal.decreases-loop-record
decreases-loop-record l = left l.own l.end
