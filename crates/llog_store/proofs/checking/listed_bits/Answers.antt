use Rattle.std.proofs.Common.{◌≡◌, arith, ap, ◌∙◌, length, take, get_or}
use Rattle.llog_store.specs.Numbers.{zeros}
use Rattle.llog_store.specs.Kept.{listed}
use Rattle.llog_store.proofs.Marks.{length-bitmap}
use Rattle.llog_store.proofs.Listing.{listed_none, listed_set, listed_unset, bit_low, all_listed}
use Rattle.llog_store.proofs.checking.listed_bits.Goals as goal
use Rattle.llog_store.proofs.checking.listed_bits.Goals.{then-has_bit, else-has_bit}

pub loop-place-init : goal.loop-place-init
unfolding zeros
loop-place-init c = c.in_ok-resize.ensures.items ∙ rw (c.new-found.ensures.items, c.new-found.ensures.len) (listed_none c.args.bits.now c.args.places.now)

pub set_bit-requires : goal.set_bit-requires
set_bit-requires c =
    let low = bit_low c.args.bits.now (get_or c.args.places.now c.loop-place.place-index (record { index = 0; at = 0; length = 0 })).index c.requires c.if-has_bit.ensures in
    let wide : length c.loop-place.found.items ≡ 32000 = ap length c.loop-place.invariant ∙ length-bitmap (listed c.args.bits.now (take c.loop-place.place-index c.args.places.now)) in
    omega (arith, low, wide)

pub loop-place-preserved : goal.loop-place-preserved
loop-place-preserved c = elim c.if-has_bit.branch [
  | then-has_bit w ↦
      let low = bit_low c.args.bits.now (get_or c.args.places.now c.loop-place.place-index (record { index = 0; at = 0; length = 0 })).index c.requires w.if-has_bit.ensures in
      rw (w.found-is, w.set_bit.ensures, c.loop-place.invariant) (listed_set c.args.bits.now c.args.places.now c.loop-place.place-index (record { index = 0; at = 0; length = 0 }) c.loop-place-test.true w.if-has_bit.ensures low)
  | else-has_bit w ↦
      rw (w.found-is, c.loop-place.invariant) (listed_unset c.args.bits.now c.args.places.now c.loop-place.place-index (record { index = 0; at = 0; length = 0 }) c.loop-place-test.true w.if-has_bit.ensures)
]

pub returns : goal.returns
returns c = c.loop-place.invariant ∙ all_listed c.args.bits.now c.args.places.now c.loop-place.place-index c.loop-place-test.false
