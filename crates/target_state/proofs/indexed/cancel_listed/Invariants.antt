use Rattle.std.proofs.Common.{◌≡◌, length}
use Rattle.target_state.specs.Marking.{cancelled_log}
use Rattle.target_state.specs.Indexed.{AreListed}
use Rattle.target_state.proofs.indexed.cancel_listed.Given as goal

abbrev pub invariant-loop : goal.invariant-loop
invariant-loop l = AreListed l.live l.log.entries × (cancelled_log l.master l.mark l.log ≡ cancelled_log l.master l.mark l.fn.log)

abbrev pub decreases-loop : goal.decreases-loop
decreases-loop l = length l.live.keys
