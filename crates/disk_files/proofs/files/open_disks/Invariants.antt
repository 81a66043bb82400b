use Rattle.std.proofs.Common.{◌≡◌, vec_len}
use Rattle.disk_files.proofs.files.open_disks.Given as goal

abbrev pub invariant-loop-index : goal.invariant-loop-index
invariant-loop-index l = vec_len l.disks ≡ l.index-counter
