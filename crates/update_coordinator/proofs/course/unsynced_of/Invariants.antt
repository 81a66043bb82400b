use Rattle.std.proofs.Common.{◌≡◌, drop}
use Rattle.update_coordinator.specs.Rules.{unsynced}
use Rattle.update_coordinator.proofs.course.unsynced_of.Given as goal

abbrev pub invariant-loop-target : goal.invariant-loop-target
invariant-loop-target l = unsynced (drop l.target-index l.targets) l.seen l.on l.synced ≡ unsynced l.targets l.seen l.on l.synced
