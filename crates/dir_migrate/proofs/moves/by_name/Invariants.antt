use Rattle.std.proofs.Common.{◌≡◌, ◌-◌, drop, length}
use Rattle.std.specs.FinMap.{from_entries}
use Rattle.tree_model.specs.Fids.{name_cmp}
use Rattle.dir_migrate.proofs.moves.by_name.Given as goal

abbrev pub invariant-loop-read : goal.invariant-loop-read
invariant-loop-read l = l.sorted ≡ from_entries {R = name_cmp} (drop (length l.items - l.read) l.items)
