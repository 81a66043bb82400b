use Rattle.std.specs.List.{flat_map}
use Rattle.tree_model.specs.TreeText.{xattr_text}
use Rattle.tree_model.proofs.Fronts.{SoFar}
use Rattle.tree_model.proofs.text.print_xattr_list.Given as goal

abbrev pub invariant-loop-name : goal.invariant-loop-name
invariant-loop-name l = SoFar l.fn.out l.out (flat_map (xattr_text l.fid) l.name-iterator) (flat_map (xattr_text l.fid) l.xattrs.entries)
