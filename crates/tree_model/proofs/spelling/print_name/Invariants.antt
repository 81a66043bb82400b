use Rattle.std.proofs.Common.{◌≡◌, ◌++◌, drop}
use Rattle.std.specs.List.{flat_map}
use Rattle.tree_model.specs.Names.{name_byte}
use Rattle.tree_model.proofs.spelling.print_name.Given as goal

abbrev pub invariant-loop-b : goal.invariant-loop-b
invariant-loop-b l = l.out ++ flat_map name_byte (drop l.b-index l.name) ≡ l.fn.out ++ flat_map name_byte l.name
