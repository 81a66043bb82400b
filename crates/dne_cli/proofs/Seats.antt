-- The seats of clients.
use Rattle.std.proofs.Common.{◌≡◌, ℕ, length}
use Rattle.std.proofs.lemmas.List.{length-replicate}
use Rattle.dne_cli.specs.Kept.{no_seats}

pub length-seats : (n : ℕ) → length (no_seats n) ≡ n
unfolding no_seats
length-seats n = length-replicate n 0
