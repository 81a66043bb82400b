use Rattle.std.proofs.Common.{◌≡◌, ◌∙◌, ℕ, List, length, sym, ap, arith, append-nil}
use Rattle.outside.specs.Disk.{put}
use Rattle.target_disk.specs.Tables.{Table, front_bytes, table_len}
use Rattle.std.proofs.lemmas.Option.{get_or_from_slice_get}
use Rattle.target_disk.proofs.RoundTrip.{links_more, links_size, links_all}
use Rattle.target_disk.proofs.table.put_table.Goals as goal

-- src/table.rt:67:5
pub loop-block-init : goal.loop-block-init
loop-block-init c =
    let t : Table = record { generation = c.args.generation; len = c.args.len; head = c.args.head; free = c.args.blocks.now.free; links = c.args.blocks.now.links } in
    c.put_front.ensures c.args.blocks.now.links
    ∙ ap (λ (v : ℕ). put c.args.table.now.items 0 (front_bytes (record { generation = c.args.generation; len = c.args.len; head = c.args.head; free = v; links = c.args.blocks.now.links }))) c.free.ensures
    ∙ ap (λ (l : List ℕ). put c.args.table.now.items 0 l) (sym (append-nil (front_bytes t)))

-- src/table.rt:71:9
pub put_word-requires : goal.put_word-requires
put_word-requires c =
    let t : Table = record { generation = c.args.generation; len = c.args.len; head = c.args.head; free = c.args.blocks.now.free; links = c.args.blocks.now.links } in
    let size : length c.loop-block.table.items ≡ table_len = links_size t c.args.table.now.items c.loop-block.table.items c.loop-block.block c.loop-block.invariant (omega (arith, c.requires.all, c.loop-block-test.true)) c.requires.all c.requires.room in
    omega (arith, size, c.loop-block-test.true)

-- src/table.rt:67:5
pub loop-block-preserved : goal.loop-block-preserved
loop-block-preserved c =
    let t : Table = record { generation = c.args.generation; len = c.args.len; head = c.args.head; free = c.args.blocks.now.free; links = c.args.blocks.now.links } in
    links_more t c.args.table.now.items c.loop-block.table.items c.put_word.new.table.items c.loop-block.block c.in-Some.link c.loop-block.invariant (omega (arith, c.requires.all, c.loop-block-test.true))
    (sym (get_or_from_slice_get c.args.blocks.now.links c.loop-block.block c.in-Some.link 0 (sym c.link.ensures ∙ c.in-Some.is))) c.put_word.ensures

-- src/table.rt:61:1
pub returns : goal.returns
returns c =
    let t : Table = record { generation = c.args.generation; len = c.args.len; head = c.args.head; free = c.args.blocks.now.free; links = c.args.blocks.now.links } in
    links_all t c.args.table.now.items c.loop-block.table.items c.loop-block.block c.loop-block.invariant c.loop-block-test.false c.requires.all c.requires.room
