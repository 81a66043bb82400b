use Rattle.std.proofs.Common.{◌≡◌, drop}
use Rattle.update_coordinator.specs.Marks.{is_everywhere}
use Rattle.update_coordinator.proofs.marks.is_everywhere.Given as goal

abbrev pub invariant-loop-target : goal.invariant-loop-target
invariant-loop-target l = is_everywhere (drop l.target-index l.targets) l.stable l.batch l.on ≡ is_everywhere l.targets l.stable l.batch l.on
