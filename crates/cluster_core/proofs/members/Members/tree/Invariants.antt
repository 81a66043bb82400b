use Rattle.std.proofs.Common.{◌≡◌, length, drop}
use Rattle.std.specs.List.{flat_map}
use Rattle.tree_model.specs.Tree.{bare}
use Rattle.share_tree.specs.Made.{with_all}
use Rattle.target_turns.specs.Showing.{objects_of}
use Rattle.cluster_core.specs.Looks.{objects_in}
use Rattle.cluster_core.proofs.members.Members.tree.Given as goal

abbrev pub invariant-loop-target : goal.invariant-loop-target
invariant-loop-target g l = record {
  count : l.tree.targets ≡ length l.self.targets;
  tree : with_all l.tree.tree (flat_map (λ t. objects_in (objects_of t)) (drop l.target-index l.self.targets)) ≡ with_all bare (flat_map (λ t. objects_in (objects_of t)) l.self.targets);
}
