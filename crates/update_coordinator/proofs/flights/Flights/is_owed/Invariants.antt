use Rattle.std.proofs.Common.{◌≡◌, drop}
use Rattle.update_coordinator.specs.Marks.{is_owed}
use Rattle.update_coordinator.proofs.flights.Flights.is_owed.Given as goal

abbrev pub invariant-loop-flight : goal.invariant-loop-flight
invariant-loop-flight l = is_owed (drop l.flight-index l.self) l.target l.attempt ≡ is_owed l.self l.target l.attempt
