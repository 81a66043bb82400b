use Rattle.std.proofs.Common.{◌≡◌, ◌≤◌, ◌+◌, ◌*◌, drop}
use Rattle.llog_store.specs.Bitmap.{set_bits}
use Rattle.llog_store.proofs.bits.count_marks.Given as goal

abbrev pub invariant-loop-byte : goal.invariant-loop-byte
invariant-loop-byte l = record {
  sum : l.count + set_bits (drop l.byte-index l.bits) ≡ set_bits l.bits;
  small : l.count ≤ 255 * l.byte-index;
}
