use Rattle.std.proofs.Common.{◌≡◌, ◌+◌, drop}
use Rattle.update_coordinator.specs.Marks.{mark_from}
use Rattle.update_coordinator.proofs.marks.mark_from.Given as goal

abbrev pub invariant-loop-on : goal.invariant-loop-on
invariant-loop-on l = (mark_from l.stable l.reached (drop l.on-index l.ons) ≡ mark_from l.stable l.mark l.ons) × (l.reached ≡ l.mark + l.on-index)
