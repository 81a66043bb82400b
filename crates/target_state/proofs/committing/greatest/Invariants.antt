use Rattle.std.proofs.Common.{◌≡◌, drop, None}
use Rattle.target_state.specs.Commit.{greatest_from}
use Rattle.target_state.proofs.committing.greatest.Given as goal

abbrev pub invariant-loop-item : goal.invariant-loop-item
invariant-loop-item l = greatest_from l.most l.master (drop l.item-index l.items) ≡ greatest_from None l.master l.items
