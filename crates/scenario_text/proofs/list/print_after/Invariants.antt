use Rattle.std.proofs.Common.{◌≡◌, ◌++◌, drop}
use Rattle.std.specs.List.{flat_map}
use Rattle.scenario_text.specs.LineText.{after_comma}
use Rattle.scenario_text.proofs.list.print_after.Given as goal

abbrev pub invariant-loop-i : goal.invariant-loop-i
invariant-loop-i l = l.out ++ flat_map after_comma (drop l.i l.numbers) ≡ l.fn.out ++ flat_map after_comma (drop 1 l.numbers)
