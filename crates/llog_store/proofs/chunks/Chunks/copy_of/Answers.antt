use Rattle.std.proofs.Common.{refl, arith}
use Rattle.llog_store.specs.Kept.{joined, Fills}
use Rattle.llog_store.proofs.chunks.Chunks.copy_of.Goals as goal

pub loop-len-init : goal.loop-len-init
unfolding joined Fills
loop-len-init c = rw c.new-chunks.ensures.items (record { text = refl; fills = refl; within = omega arith; there = omega arith })
