use Rattle.std.proofs.Common.{◌≡◌, take}
use Rattle.llog_store.specs.Bitmap.{bitmap}
use Rattle.llog_store.specs.Kept.{listed}
use Rattle.llog_store.proofs.checking.listed_bits.Given as goal

abbrev pub invariant-loop-place : goal.invariant-loop-place
invariant-loop-place l = l.found.items ≡ bitmap (listed l.bits (take l.place-index l.places))
