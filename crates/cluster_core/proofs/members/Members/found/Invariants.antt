use Rattle.std.proofs.Common.{◌≡◌, ◌++◌, List, length}
use Rattle.cluster_core.specs.Cluster.{Cluster, AreTouched}
use Rattle.cluster_core.specs.Founding.{AreFounded, foundings_lines}
use Rattle.cluster_core.proofs.members.Members.found.Given as goal

abbrev pub invariant-loop-target : goal.invariant-loop-target
invariant-loop-target g l = record {
  clusters : (ds : List Cluster) × AreFounded 0 l.fn.self ds l.self × (length ds ≡ l.target) × (l.lines ≡ l.fn.lines ++ foundings_lines 0 ds);
  touched : AreTouched l.fn.self.targets l.self.targets;
}
