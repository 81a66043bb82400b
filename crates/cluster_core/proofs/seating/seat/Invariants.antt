use Rattle.std.proofs.Common.{◌≡◌, ◌≤◌, ◌+◌, ◌++◌, List, length, map, vec_len, vec_capacity}
use Rattle.outside.specs.Disk.{Shown}
use Rattle.cluster_core.specs.Founding.{unfounded}
use Rattle.cluster_core.proofs.seating.seat.Given as goal

abbrev pub invariant-loop-index : goal.invariant-loop-index
invariant-loop-index g l = record {
  seats : (front : List Shown) × (map g.D.Disk.shown l.fn.disks.items ≡ front ++ map g.D.Disk.shown l.disks.items) × (length front ≡ l.index) × (l.targets.items ≡ unfounded l.fn.cluster 0 front);
  count : vec_len l.targets ≡ l.index;
  room : l.fn.cluster ≤ vec_capacity l.targets;
  left : vec_len l.disks + l.index ≡ vec_len l.fn.disks;
  capacity : vec_capacity l.disks ≡ vec_capacity l.fn.disks;
}
