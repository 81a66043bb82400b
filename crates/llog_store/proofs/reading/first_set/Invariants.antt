use Rattle.std.proofs.Common.{◌≡◌, drop}
use Rattle.llog_store.specs.Numbers.{first_set}
use Rattle.llog_store.proofs.Searching.{shift}
use Rattle.llog_store.proofs.reading.first_set.Given as goal

abbrev pub invariant-loop-i : goal.invariant-loop-i
invariant-loop-i l = first_set l.bytes ≡ shift l.i (first_set (drop l.i l.bytes))
