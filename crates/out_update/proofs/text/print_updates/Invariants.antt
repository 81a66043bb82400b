use Rattle.std.proofs.Common.{◌≡◌, ◌++◌, drop}
use Rattle.std.specs.List.{flat_map}
use Rattle.out_update.specs.Text.{update_lines}
use Rattle.out_update.proofs.text.print_updates.Given as goal

abbrev pub invariant-loop-update : goal.invariant-loop-update
invariant-loop-update l = l.out ++ flat_map update_lines (drop l.update-index l.updates) ≡ l.fn.out ++ flat_map update_lines l.updates
