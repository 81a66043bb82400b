use Rattle.std.proofs.Common.{◌≡◌}
use Rattle.scenario_text.specs.LineText.{members}
use Rattle.scenario_text.proofs.list.members.Given as goal

abbrev pub invariant-loop-target : goal.invariant-loop-target
invariant-loop-target l = l.members.items ≡ members l.set l.target
