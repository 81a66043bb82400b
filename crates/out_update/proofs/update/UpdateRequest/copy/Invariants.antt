use Rattle.std.proofs.Common.{◌≡◌, ◌++◌, drop}
use Rattle.out_update.proofs.update.UpdateRequest.copy.Given as goal

abbrev pub invariant-loop-update : goal.invariant-loop-update
invariant-loop-update l = l.copy ++ drop l.update-index l.self ≡ l.self
