use Rattle.std.proofs.Common.{◌≡◌, drop}
use Rattle.update_coordinator.specs.Marks.{between_from}
use Rattle.update_coordinator.proofs.marks.between.Given as goal

abbrev pub invariant-loop-on : goal.invariant-loop-on
invariant-loop-on l = (between_from (drop l.on-index l.ons) l.n l.least l.most l.so_far ≡ between_from l.ons 0 l.least l.most 0) × (l.n ≡ l.on-index)
