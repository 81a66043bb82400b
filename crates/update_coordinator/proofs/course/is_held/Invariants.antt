use Rattle.std.proofs.Common.{◌≡◌, drop}
use Rattle.update_coordinator.specs.Rules.{is_held}
use Rattle.update_coordinator.proofs.course.is_held.Given as goal

abbrev pub invariant-loop-one : goal.invariant-loop-one
invariant-loop-one l = is_held (drop l.one-index l.held) l.target ≡ is_held l.held l.target
