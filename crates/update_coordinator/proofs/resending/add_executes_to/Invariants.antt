use Rattle.std.proofs.Common.{◌≡◌, ◌++◌, All, drop}
use Rattle.std.specs.List.{flat_map}
use Rattle.update_record.specs.Messages.{FitsMessage}
use Rattle.update_coordinator.specs.Resending.{execute_to}
use Rattle.update_coordinator.proofs.resending.add_executes_to.Given as goal

abbrev pub invariant-loop-target : goal.invariant-loop-target
invariant-loop-target l =
    (l.out ++ flat_map (execute_to l.home l.flight l.entry) (drop l.target-index l.targets) ≡ l.fn.out ++ flat_map (execute_to l.home l.flight l.entry) l.targets)
    × All FitsMessage l.out
