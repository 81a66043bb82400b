use Rattle.std.proofs.Common.{◌≡◌, drop}
use Rattle.update_coordinator.specs.Rules.{full}
use Rattle.update_coordinator.proofs.course.full.Given as goal

abbrev pub invariant-loop-part : goal.invariant-loop-part
invariant-loop-part l = full l.need l.held (drop l.part-index l.parts) ≡ full l.need l.held l.parts
