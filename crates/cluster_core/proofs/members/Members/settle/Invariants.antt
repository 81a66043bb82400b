use Rattle.std.proofs.Common.{◌≡◌, ◌++◌, List, length}
use Rattle.cluster_core.specs.Cluster.{AreTouched}
use Rattle.cluster_core.specs.Delivery.{Step, AreSteps, steps_lines}
use Rattle.cluster_core.proofs.members.Members.settle.Given as goal

abbrev pub invariant-loop-turn : goal.invariant-loop-turn
invariant-loop-turn g l = record {
  steps : (ss : List Step) × AreSteps l.fn.self ss l.self × (length ss ≡ l.turn) × (l.lines ≡ l.fn.lines ++ steps_lines ss);
  touched : AreTouched l.fn.self.targets l.self.targets;
}
