use Rattle.std.proofs.Common.{rules}
use Rattle.dne_cli.specs.Kept.{no_seats}
use Rattle.dne_cli.proofs.ledger.seats.Goals as goal

pub returns : goal.returns
unfolding no_seats
returns c = search rules
