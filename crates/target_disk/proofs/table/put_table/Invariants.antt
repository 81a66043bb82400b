use Rattle.std.proofs.Common.{◌≡◌, ◌++◌, take}
use Rattle.outside.specs.Disk.{put}
use Rattle.target_disk.specs.Tables.{front_bytes, word_bytes}
use Rattle.target_disk.proofs.table.put_table.Given as goal

abbrev pub invariant-loop-block : goal.invariant-loop-block
invariant-loop-block l =
    l.table.items ≡ put l.fn.table.items 0 (front_bytes (record { generation = l.fn.generation; len = l.fn.len; head = l.fn.head; free = l.fn.blocks.free; links = l.fn.blocks.links }) ++ word_bytes (take l.block l.fn.blocks.links))
