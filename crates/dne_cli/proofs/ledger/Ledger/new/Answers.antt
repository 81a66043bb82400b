use Rattle.std.proofs.Common.{List, ℕ, length, ap, ◌∙◌}
use Rattle.dne_cli.proofs.Seats.{length-seats}
use Rattle.dne_cli.proofs.ledger.Ledger.new.Goals as goal

pub invariant_of-result : goal.invariant_of-result
invariant_of-result c = ap (λ (l : List ℕ). length l) c.in_ok-seats.ensures ∙ length-seats 256
