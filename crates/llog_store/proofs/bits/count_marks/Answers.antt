use Rattle.std.proofs.Common.{◌≡◌, ◌+◌, get_or, drop, count_ones, arith}
use Rattle.std.proofs.lemmas.Nat.{ones_le_self}
use Rattle.std.proofs.lemmas.List.{at_drop_more}
use Rattle.llog_store.specs.Bitmap.{set_bits}
use Rattle.llog_store.proofs.bits.count_marks.Goals as goal

pub loop-byte-preserved : goal.loop-byte-preserved
unfolding set_bits
loop-byte-preserved c =
    let i = c.loop-byte.byte-index in
    let b = get_or c.args.bits.now i 0 in
    let more : set_bits (drop i c.args.bits.now) ≡ count_ones b + set_bits (drop (i + 1) c.args.bits.now) = at_drop_more set_bits c.args.bits.now i 0 c.loop-byte-test.true in
    record {
      sum = omega (arith, more, c.loop-byte.invariant.sum);
      small = omega (arith, ones_le_self b, c.type_inv.bits i, c.loop-byte.invariant.small);
    }
