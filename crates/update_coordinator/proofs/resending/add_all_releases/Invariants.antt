use Rattle.std.proofs.Common.{◌≡◌, ◌++◌, All, drop}
use Rattle.std.specs.List.{flat_map}
use Rattle.update_record.specs.Messages.{FitsMessage}
use Rattle.update_coordinator.specs.Resending.{releases_from}
use Rattle.update_coordinator.proofs.resending.add_all_releases.Given as goal

abbrev pub invariant-loop-flight : goal.invariant-loop-flight
invariant-loop-flight l =
    (l.out ++ flat_map (releases_from l.home) (drop l.flight-index l.home.flights) ≡ l.fn.out ++ flat_map (releases_from l.home) l.home.flights)
    × All FitsMessage l.out
