use Rattle.std.proofs.Common.{◌≡◌, ◌++◌, drop}
use Rattle.scenario_text.specs.LineText.{texts}
use Rattle.dne_cli.specs.Kept.{turned_away}
use Rattle.dne_cli.proofs.session.turn_away.Given as goal

abbrev pub invariant-loop-request : goal.invariant-loop-request
invariant-loop-request l = l.out ++ texts (turned_away (drop l.request-index l.requests)) ≡ l.fn.out ++ texts (turned_away l.requests)
