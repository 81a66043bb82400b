use Rattle.std.proofs.Common.{◌≡◌, ◌++◌, drop}
use Rattle.std.specs.List.{flat_map}
use Rattle.scenario_text.specs.LineText.{after_comma}
use Rattle.scenario_text.proofs.list.print_rest.Given as goal

abbrev pub invariant-loop-number : goal.invariant-loop-number
invariant-loop-number l = l.out ++ flat_map after_comma (drop l.number-index l.numbers) ≡ l.fn.out ++ flat_map after_comma l.numbers
