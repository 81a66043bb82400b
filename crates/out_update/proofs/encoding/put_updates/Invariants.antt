use Rattle.std.proofs.Common.{◌≡◌, ◌++◌, drop}
use Rattle.out_update.specs.Spelling.{updates_text}
use Rattle.out_update.proofs.encoding.put_updates.Given as goal

abbrev pub invariant-loop-update : goal.invariant-loop-update
invariant-loop-update l = l.out.items ++ updates_text (drop l.update-index l.updates) ≡ l.fn.out.items ++ updates_text l.updates
