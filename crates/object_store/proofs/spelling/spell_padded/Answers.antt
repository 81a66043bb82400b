use Rattle.std.proofs.Common.{length}
use Rattle.byte_grammar.specs.Numbers.{zeros, padding}
use Rattle.object_store.specs.ImageText.{padded_text}
use Rattle.object_store.proofs.Fronts.{anyway, nothing, behind}
use Rattle.object_store.proofs.spelling.spell_padded.Goals as goal

pub returns-in_err-append-clause-front : goal.returns-in_err-append-clause-front
returns-in_err-append-clause-front c = anyway _ (nothing _ _ _ c.in_err-append.ensures.err)

pub returns-in_err-append-2-clause-front : goal.returns-in_err-append-2-clause-front
unfolding padded_text
returns-in_err-append-2-clause-front c =
    let bytes = c.args.bytes.now in
    anyway _ (behind bytes (zeros (padding (length bytes))) c.args.out.now c.append.new.self c.append-2.new.self c.in_ok-append.ensures.ok (nothing _ _ _ c.in_err-append-2.ensures.err))
