-- The masters that are told once more are targets.
use Rattle.std.proofs.Common.{◌≡◌, ℕ, zero, suc, ◌+◌, ◌≤◌, ◌<◌, List, [], ◌∷◌, ◌++◌, All, Option, Some, None, arith}
use Rattle.std.proofs.lemmas.List.Elements.{All-nil, All-cons, All-append}
use Rattle.target_state.specs.Commit.{mark_of}
use Rattle.target_state.specs.Marking.{greatest_batch, greatest_batches}
use Rattle.target_turns.proofs.Listing.{IsBelow, mark_below}

pub greatest_below : (n master : ℕ) (ids : List (ℕ × ℕ)) → n + master ≤ 16 → All IsBelow (greatest_batches n master ids)
unfolding greatest_batches
greatest_below zero master ids h = All-nil IsBelow
greatest_below (suc n) master ids h =
    All-append IsBelow (mark_of master (greatest_batch master None ids)) (greatest_batches n (master + 1) ids) (mark_below master (greatest_batch master None ids) (omega arith)) (greatest_below n (master + 1) ids (omega arith))
