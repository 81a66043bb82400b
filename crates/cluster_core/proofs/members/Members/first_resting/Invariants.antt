use Rattle.std.proofs.Common.{◌≡◌, drop}
use Rattle.cluster_core.specs.Looks.{first_resting}
use Rattle.cluster_core.proofs.members.Members.first_resting.Given as goal

abbrev pub invariant-loop-index : goal.invariant-loop-index
invariant-loop-index g l = first_resting 0 l.self.targets ≡ first_resting l.index (drop l.index l.self.targets)
