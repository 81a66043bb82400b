use Rattle.std.proofs.Common.{◌≡◌, ◌++◌, All, drop}
use Rattle.std.specs.List.{flat_map}
use Rattle.update_record.specs.Messages.{FitsMessage}
use Rattle.update_coordinator.specs.Resending.{release_to}
use Rattle.update_coordinator.proofs.resending.add_releases_to.Given as goal

abbrev pub invariant-loop-target : goal.invariant-loop-target
invariant-loop-target l =
    (l.out ++ flat_map (release_to l.home l.flight) (drop l.target-index l.targets) ≡ l.fn.out ++ flat_map (release_to l.home l.flight) l.targets)
    × All FitsMessage l.out
