use Rattle.std.proofs.Common.{◌≡◌, ◌≤◌, ◌+◌, ◌++◌, map, vec_len, vec_capacity}
use Rattle.cluster_core.specs.Cluster.{disks_of}
use Rattle.cluster_core.proofs.seating.unseat.Given as goal

abbrev pub invariant-loop-target : goal.invariant-loop-target
invariant-loop-target g l = record {
  disks : disks_of l.targets.items ++ map g.D.Disk.shown l.disks.items ≡ disks_of l.fn.targets.items ++ map g.D.Disk.shown l.fn.spare.items;
  count : vec_len l.targets + l.target ≡ vec_len l.fn.targets;
  room : vec_len l.targets + vec_len l.disks ≤ vec_capacity l.disks;
}
