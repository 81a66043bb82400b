use Rattle.std.proofs.Common.{◌≡◌, ◌++◌, drop, map}
use Rattle.target_state.specs.State.{TargetState}
use Rattle.update_recovery.specs.Union.{greatest_from}
use Rattle.update_recovery.proofs.bounds.Bounds.of.Given as goal

abbrev pub invariant-loop-node : goal.invariant-loop-node
invariant-loop-node g l =
    (greatest_from l.epoch (map (λ n. n.state) (drop l.node-index l.nodes)) ≡ greatest_from 0 (map (λ n. n.state) l.nodes))
    × (l.marks.items ++ map (λ (s : TargetState). s.mark) (map (λ n. n.state) (drop l.node-index l.nodes)) ≡ map (λ (s : TargetState). s.mark) (map (λ n. n.state) l.nodes))
