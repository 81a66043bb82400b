use Rattle.tree_shares.proofs.Seating.{seats_along, seats_last}
use Rattle.tree_shares.proofs.seats_are_last.Goals as goal

pub returns : goal.returns
returns c = record { along = seats_along; last = seats_last }
