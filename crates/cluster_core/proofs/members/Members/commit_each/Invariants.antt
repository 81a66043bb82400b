use Rattle.std.proofs.Common.{◌≡◌, ◌++◌, List, length}
use Rattle.cluster_core.specs.Cluster.{AreTouched}
use Rattle.cluster_core.specs.Ends.{Commit, AreCommits, commits_lines}
use Rattle.cluster_core.proofs.members.Members.commit_each.Given as goal

abbrev pub invariant-loop-target : goal.invariant-loop-target
invariant-loop-target g l = record {
  commits : (ss : List Commit) × AreCommits 0 l.fn.self ss l.self × (length ss ≡ l.target) × (l.lines ≡ l.fn.lines ++ commits_lines ss);
  touched : AreTouched l.fn.self.targets l.self.targets;
}
