use Rattle.std.proofs.Common.{◌≡◌, ◌++◌, take}
use Rattle.scenario_text.specs.LineText.{texts}
use Rattle.scenario_text.proofs.lines.print_lines.Given as goal

abbrev pub invariant-loop-line : goal.invariant-loop-line
invariant-loop-line l = l.out ≡ l.fn.out ++ texts (take l.line-index l.lines)
