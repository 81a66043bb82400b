use Rattle.std.specs.List.{flat_map}
use Rattle.tree_model.specs.TreeText.{entry_text}
use Rattle.tree_model.proofs.Fronts.{SoFar}
use Rattle.tree_model.proofs.text.print_name_list.Given as goal

abbrev pub invariant-loop-name : goal.invariant-loop-name
invariant-loop-name l = SoFar l.fn.out l.out (flat_map (entry_text l.directory) l.name-iterator) (flat_map (entry_text l.directory) l.names.entries)
