use Rattle.std.proofs.Common.{◌≡◌, ◌∙◌, length, arith}
use Rattle.std.specs.Int.{w32, w64, to_le_bytes}
use Rattle.target_disk.specs.Tables.{table_len, magic, block_count}
use Rattle.target_disk.proofs.RoundTrip.{front_put, length_kept}
use Rattle.target_disk.proofs.table.put_front.Goals as goal

-- src/table.rt:57:5
pub put_word-requires-4 : goal.put_word-requires-4
put_word-requires-4 c =
    let t0 = c.args.table.now.items in
    let t1 = c.put_word.new.table.items in
    let t2 = c.put_word-2.new.table.items in
    let t3 = c.put_long.new.table.items in
    let t4 = c.put_long-2.new.table.items in
    let t5 = c.put_word-3.new.table.items in
    let l1 : length t1 ≡ table_len = length_kept 0 t0 t1 (to_le_bytes w32 magic) c.put_word.ensures (omega (arith, c.requires)) ∙ c.requires in
    let l2 : length t2 ≡ table_len = length_kept 4 t1 t2 (to_le_bytes w32 block_count) c.put_word-2.ensures (omega (arith, l1)) ∙ l1 in
    let l3 : length t3 ≡ table_len = length_kept 8 t2 t3 (to_le_bytes w64 c.args.generation) c.put_long.ensures (omega (arith, l2)) ∙ l2 in
    let l4 : length t4 ≡ table_len = length_kept 16 t3 t4 (to_le_bytes w64 c.args.len) c.put_long-2.ensures (omega (arith, l3)) ∙ l3 in
    let l5 : length t5 ≡ table_len = length_kept 24 t4 t5 (to_le_bytes w32 c.args.head) c.put_word-3.ensures (omega (arith, l4)) ∙ l4 in
    omega (arith, l5)

-- src/table.rt:48:1
pub returns : goal.returns
returns c links =
    front_put c.args.table.now.items c.put_word.new.table.items c.put_word-2.new.table.items c.put_long.new.table.items c.put_long-2.new.table.items c.put_word-3.new.table.items c.put_word-4.new.table.items
    (record { generation = c.args.generation; len = c.args.len; head = c.args.head; free = c.args.free; links = links })
    c.put_word.ensures c.put_word-2.ensures c.put_long.ensures c.put_long-2.ensures c.put_word-3.ensures c.put_word-4.ensures
