use Rattle.std.proofs.Common.{◌≡◌, ◌+◌, ◌-◌, ◌/◌, [], ℕ, length, set, take, drop, ap, sym, subst, ◌∙◌, arith}
use Rattle.std.proofs.lemmas.List.{get_or_read, length-take, length-drop}
use Rattle.llog_store.specs.Kept.{Fills}
use Rattle.llog_store.proofs.Filling.{length-last, written_text, written_fills, copied}
use Rattle.llog_store.proofs.chunks.fill.Goals as goal

pub add-requires : goal.add-requires
add-requires c =
    let cs = c.args.chunks.now.items in
    let read = get_or_read cs (c.args.len / 32768) c.index_mut.result.now c.requires.there c.index_mut.ensures.value [] in
    let piece = length-take (c.end_of-end.result - c.args.len) (drop c.args.len c.args.bytes.now) in
    omega (arith, ap length read, length-last c.args.len cs c.requires.fills c.requires.there, piece, c.end_of-end.ensures.inside)

pub returns-clause-text : goal.returns-clause-text
returns-clause-text c =
    let cs = c.args.chunks.now.items in
    let read = get_or_read cs (c.args.len / 32768) c.index_mut.result.now c.requires.there c.index_mut.ensures.value [] in
    let piece = length-take (c.end_of-end.result - c.args.len) (drop c.args.len c.args.bytes.now) in
    let more = c.end_of-end.ensures.more in
    written_text c.args.len cs (take (c.end_of-end.result - c.args.len) (drop c.args.len c.args.bytes.now)) c.index_mut.result.now c.add.new.self c.requires.fills c.requires.there (omega (arith, piece, c.end_of-end.ensures.inside)) (sym read) c.add.ensures.text
    ∙ copied c.args.len c.end_of-end.result c.args.bytes.now _ c.requires.before (omega (arith, more))

pub returns-clause-fills : goal.returns-clause-fills
returns-clause-fills c =
    let cs = c.args.chunks.now.items in
    let read = get_or_read cs (c.args.len / 32768) c.index_mut.result.now c.requires.there c.index_mut.ensures.value [] in
    let piece = length-take (c.end_of-end.result - c.args.len) (drop c.args.len c.args.bytes.now) in
    let left = length-drop c.args.len c.args.bytes.now in
    let more = c.end_of-end.ensures.more in
    let within = c.end_of-end.ensures.within in
    let long : length (take (c.end_of-end.result - c.args.len) (drop c.args.len c.args.bytes.now)) ≡ c.end_of-end.result - c.args.len = omega (arith, piece, left, more, within) in
    let there : c.args.len + (c.end_of-end.result - c.args.len) ≡ c.end_of-end.result = omega (arith, more) in
    let filled = written_fills c.args.len (c.end_of-end.result - c.args.len) cs (take (c.end_of-end.result - c.args.len) (drop c.args.len c.args.bytes.now)) c.index_mut.result.now c.add.new.self c.requires.fills c.requires.there (omega (arith, long, c.end_of-end.ensures.inside)) (sym read) c.add.ensures.text long in
    subst (λ (n : ℕ). Fills n (set cs (c.args.len / 32768) c.add.new.self)) there filled
