use Rattle.std.proofs.Common.{◌/◌, [], length, ap, sym, arith}
use Rattle.std.proofs.lemmas.List.{get_or_read}
use Rattle.llog_store.specs.Log.{record_size, record_text}
use Rattle.llog_store.proofs.Fitting.{length-record}
use Rattle.llog_store.proofs.Filling.{length-last, written_text, written_fills}
use Rattle.llog_store.proofs.chunks.record_at.Goals as goal

pub add_record-requires-clause-room : goal.add_record-requires-clause-room
add_record-requires-clause-room c =
    let cs = c.args.chunks.now.items in
    let read = get_or_read cs (c.args.len / 32768) c.index_mut.result.now c.requires.there c.index_mut.ensures.value [] in
    omega (arith, ap length read, length-last c.args.len cs c.requires.fills c.requires.there, c.requires.room)

pub returns-clause-text : goal.returns-clause-text
returns-clause-text c =
    let cs = c.args.chunks.now.items in
    let read = get_or_read cs (c.args.len / 32768) c.index_mut.result.now c.requires.there c.index_mut.ensures.value [] in
    let text = record_text c.args.index c.args.payload.now in
    let long = length-record c.args.index c.args.payload.now in
    written_text c.args.len cs text c.index_mut.result.now c.add_record.new.self c.requires.fills c.requires.there (omega (arith, c.requires.room, long)) (sym read) c.add_record.ensures

pub returns-clause-fills : goal.returns-clause-fills
returns-clause-fills c =
    let cs = c.args.chunks.now.items in
    let read = get_or_read cs (c.args.len / 32768) c.index_mut.result.now c.requires.there c.index_mut.ensures.value [] in
    let text = record_text c.args.index c.args.payload.now in
    let long = length-record c.args.index c.args.payload.now in
    rw c.record_size.ensures.value (written_fills c.args.len (record_size (length c.args.payload.now)) cs text c.index_mut.result.now c.add_record.new.self c.requires.fills c.requires.there (omega (arith, c.requires.room, long)) (sym read) c.add_record.ensures long)
