use Rattle.std.specs.Prelude.{◌≡◌, ◌≤◌, ◌+◌, ◌++◌, length, drop}
use Rattle.scenario_text.specs.LineText.{texts}
use Rattle.dne_cli.specs.Kept.{served, served_lines}
use Rattle.dne_cli.proofs.ledger.Ledger.serve_all.Given as goal

abbrev pub invariant-loop-request : goal.invariant-loop-request
invariant-loop-request l = record {
  after : served l.self (drop l.request-index l.requests) ≡ served l.fn.self l.requests;
  within : l.request-index ≤ length l.requests;
  count : l.self.count ≤ l.fn.self.count + l.request-index;
  lines : l.out ++ texts (served_lines l.self (drop l.request-index l.requests)) ≡ l.fn.out ++ texts (served_lines l.fn.self l.requests);
}
