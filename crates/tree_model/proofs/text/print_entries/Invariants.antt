use Rattle.std.specs.List.{flat_map}
use Rattle.tree_model.specs.TreeText.{names_text}
use Rattle.tree_model.proofs.Fronts.{SoFar}
use Rattle.tree_model.proofs.text.print_entries.Given as goal

abbrev pub invariant-loop-directory : goal.invariant-loop-directory
invariant-loop-directory l = SoFar l.fn.out l.out (flat_map names_text l.directory-iterator) (flat_map names_text l.directories.entries)
