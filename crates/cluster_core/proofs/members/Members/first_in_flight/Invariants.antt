use Rattle.std.proofs.Common.{◌≡◌, drop}
use Rattle.cluster_core.specs.Looks.{in_flight_from, first_in_flight}
use Rattle.cluster_core.proofs.members.Members.first_in_flight.Given as goal

abbrev pub invariant-loop-target : goal.invariant-loop-target
invariant-loop-target g l = in_flight_from l.found (drop l.target-index l.self.targets) ≡ first_in_flight l.self.targets
