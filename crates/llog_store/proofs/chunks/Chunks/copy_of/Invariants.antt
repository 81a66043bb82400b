use Rattle.std.proofs.Common.{◌≡◌, ◌≤◌, ◌/◌, ◌-◌, length, take}
use Rattle.llog_store.specs.Kept.{joined, Fills}
use Rattle.llog_store.proofs.chunks.Chunks.copy_of.Given as goal

abbrev pub invariant-loop-len : goal.invariant-loop-len
invariant-loop-len l = record {
  text : joined l.chunks.items ≡ take l.len l.bytes;
  fills : Fills l.len l.chunks.items;
  within : l.len ≤ length l.bytes;
  there : l.len / 32768 ≤ length l.chunks.items;
}

abbrev pub decreases-loop-len : goal.decreases-loop-len
decreases-loop-len l = length l.bytes - l.len
