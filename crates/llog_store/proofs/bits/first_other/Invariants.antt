use Rattle.std.proofs.Common.{◌≡◌, drop}
use Rattle.llog_store.specs.Bitmap.{first_other}
use Rattle.llog_store.proofs.Searching.{shift}
use Rattle.llog_store.proofs.bits.first_other.Given as goal

abbrev pub invariant-loop-i : goal.invariant-loop-i
invariant-loop-i l = first_other l.bits l.others ≡ shift l.i (first_other (drop l.i l.bits) (drop l.i l.others))
