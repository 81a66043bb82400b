use Rattle.std.proofs.Common.{◌≡◌, ◌-◌, ◌/◌, ◌<◌, false, eqb, [], refl, length, ap, sym, ◌∙◌, arith, inl, inr}
use Rattle.std.proofs.lemmas.Bool.Decides.{eqb_tells}
use Rattle.std.proofs.lemmas.List.{get_or_read}
use Rattle.llog_store.specs.Log.{pad_text}
use Rattle.llog_store.proofs.Fitting.{length-pad}
use Rattle.llog_store.proofs.Filling.{length-last, written_text, written_fills, some_lost}
use Rattle.llog_store.proofs.chunks.pad_at.Goals as goal

pub add_pad-requires-clause-room : goal.add_pad-requires-clause-room
add_pad-requires-clause-room c =
    let cs = c.args.chunks.now.items in
    let s = some_lost c.args.len c.args.lost c.requires.lost c.if-lost-eq0.false in
    let there : c.args.len / 32768 < length cs = omega (arith, c.requires.there) in
    let read = get_or_read cs (c.args.len / 32768) c.index_mut.result.now there c.index_mut.ensures.value [] in
    omega (arith, ap length read, length-last c.args.len cs c.requires.fills there, s.1)

pub returns-clause-text : goal.returns-clause-text
returns-clause-text c =
    let cs = c.args.chunks.now.items in
    let s = some_lost c.args.len c.args.lost c.requires.lost c.if-lost-eq0.false in
    let there : c.args.len / 32768 < length cs = omega (arith, c.requires.there) in
    let read = get_or_read cs (c.args.len / 32768) c.index_mut.result.now there c.index_mut.ensures.value [] in
    let pad = pad_text c.args.lost (c.args.index - 1) in
    let long = length-pad c.args.lost (c.args.index - 1) s.0 in
    let off : eqb c.args.lost 0 ≡ false = elim (eqb_tells c.args.lost 0) [ inl h ↦ absurd (c.if-lost-eq0.false h.1) | inr h ↦ h.0 ] in
    written_text c.args.len cs pad c.index_mut.result.now c.add_pad.new.self c.requires.fills there (omega (arith, s.1, long)) (sym read) c.add_pad.ensures ∙ sym (rw off refl)

pub returns-clause-fills : goal.returns-clause-fills
returns-clause-fills c =
    let cs = c.args.chunks.now.items in
    let s = some_lost c.args.len c.args.lost c.requires.lost c.if-lost-eq0.false in
    let there : c.args.len / 32768 < length cs = omega (arith, c.requires.there) in
    let read = get_or_read cs (c.args.len / 32768) c.index_mut.result.now there c.index_mut.ensures.value [] in
    let pad = pad_text c.args.lost (c.args.index - 1) in
    let long = length-pad c.args.lost (c.args.index - 1) s.0 in
    written_fills c.args.len c.args.lost cs pad c.index_mut.result.now c.add_pad.new.self c.requires.fills there (omega (arith, s.1, long)) (sym read) c.add_pad.ensures long
