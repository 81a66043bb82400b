use Rattle.std.specs.List.{flat_map}
use Rattle.tree_model.specs.TreeText.{xattrs_text}
use Rattle.tree_model.proofs.Fronts.{SoFar}
use Rattle.tree_model.proofs.text.print_xattrs.Given as goal

abbrev pub invariant-loop-fid : goal.invariant-loop-fid
invariant-loop-fid l = SoFar l.fn.out l.out (flat_map xattrs_text l.fid-iterator) (flat_map xattrs_text l.nodes.entries)
