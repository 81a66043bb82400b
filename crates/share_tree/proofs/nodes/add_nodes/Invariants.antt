use Rattle.std.proofs.Common.{◌≡◌}
use Rattle.std.specs.FinMap.{entries}
use Rattle.tree_model.specs.Fids.{fid_cmp}
use Rattle.object_store.specs.Following.{behind}
use Rattle.share_tree.specs.Made.{with_nodes}
use Rattle.share_tree.proofs.nodes.add_nodes.Given as goal

abbrev pub invariant-loop-node : goal.invariant-loop-node
invariant-loop-node l = record {
  rest : with_nodes l.tree.tree (behind fid_cmp l.after (entries l.objects)) ≡ with_nodes l.initial.tree.tree (entries l.objects);
  targets : l.tree.targets ≡ l.initial.tree.targets;
}
