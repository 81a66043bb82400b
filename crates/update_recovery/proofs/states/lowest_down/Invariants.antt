use Rattle.std.proofs.Common.{◌≡◌, drop}
use Rattle.update_recovery.specs.States.{lowest_down}
use Rattle.update_recovery.proofs.states.lowest_down.Given as goal

abbrev pub invariant-loop-place : goal.invariant-loop-place
invariant-loop-place g l = lowest_down l.place (drop l.place l.targets) ≡ lowest_down 0 l.targets
