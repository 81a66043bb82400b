use Rattle.std.proofs.Common.{◌≤◌, ◌-◌}
use Rattle.target_state.proofs.Packing.{PacksOn}
use Rattle.target_state.proofs.indexed.packed.Given as goal

abbrev pub invariant-loop-index : goal.invariant-loop-index
invariant-loop-index l = PacksOn l.packed l.from l.log × (l.packed.next ≤ 256000)

abbrev pub decreases-loop-index : goal.decreases-loop-index
decreases-loop-index l = l.log.next - l.from
