use Rattle.std.proofs.Common.{◌≡◌, drop}
use Rattle.target_disk.specs.Tables.{words}
use Rattle.target_disk.proofs.table.links_in.Given as goal

abbrev pub invariant-loop-block : goal.invariant-loop-block
invariant-loop-block l = l.links.items ≡ words l.block (drop 32 l.table.items)
