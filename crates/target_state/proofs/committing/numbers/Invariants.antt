use Rattle.std.proofs.Common.{◌≡◌, ◌++◌, drop}
use Rattle.target_state.specs.Commit.{numbers_of}
use Rattle.target_state.proofs.committing.numbers.Given as goal

abbrev pub invariant-loop-item : goal.invariant-loop-item
invariant-loop-item l = l.numbers ++ numbers_of (drop l.item-index l.items) ≡ numbers_of l.items
