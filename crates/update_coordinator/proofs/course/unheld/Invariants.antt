use Rattle.std.proofs.Common.{◌≡◌, drop}
use Rattle.update_coordinator.specs.Rules.{unheld}
use Rattle.update_coordinator.proofs.course.unheld.Given as goal

abbrev pub invariant-loop-part : goal.invariant-loop-part
invariant-loop-part l = unheld l.held (drop l.part-index l.parts) ≡ unheld l.held l.parts
