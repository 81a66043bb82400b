use Rattle.std.specs.List.{flat_map}
use Rattle.tree_model.specs.TreeText.{node_text}
use Rattle.tree_model.proofs.Fronts.{SoFar}
use Rattle.tree_model.proofs.text.print_nodes.Given as goal

abbrev pub invariant-loop-fid : goal.invariant-loop-fid
invariant-loop-fid l = SoFar l.fn.out l.out (flat_map node_text l.fid-iterator) (flat_map node_text l.nodes.entries)
