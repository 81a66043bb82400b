use Rattle.std.proofs.Common.{◌≡◌, length, ap, ◌∙◌, sym, arith}
use Rattle.tree_model.specs.Names.{AreBytes}
use Rattle.fid_space.specs.HexText.{hex_text}
use Rattle.tree_model.proofs.Spellings.{at_some, one_hex}
use Rattle.tree_model.proofs.op_words.value_of.Goals as goal

pub returns-then-len-gt4096-clause-fault : goal.returns-then-len-gt4096-clause-fault
returns-then-len-gt4096-clause-fault c = λ targets value h e.
    let read = at_some (λ v. AreBytes v × (c.args.word.now ≡ hex_text v)) c.in-Ok-Some.field-0 c.in-Ok-Some.bytes c.in-Ok-Some.field-0-is c.in-Ok-Some.ensures.some in
    let same : c.in-Ok-Some.bytes ≡ value = one_hex c.in-Ok-Some.bytes value read.0 h.0 (sym read.1 ∙ e) in
    let long = c.if-len-gt4096.true in
    let len = c.len.ensures ∙ ap length same in
    absurd (omega (arith, long, len, h.1))
