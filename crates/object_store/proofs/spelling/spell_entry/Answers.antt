use Rattle.std.proofs.Common.{List, ℕ, subst}
use Rattle.object_store.specs.ImageText.{entry_text, IsFront}
use Rattle.object_store.proofs.Spelled.{entry_joined}
use Rattle.object_store.proofs.Fronts.{anyway, nothing, behind}
use Rattle.object_store.proofs.spelling.spell_entry.Goals as goal

pub returns-in_err-append-clause-front : goal.returns-in_err-append-clause-front
returns-in_err-append-clause-front c = anyway _ (nothing _ _ _ c.in_err-append.ensures.err)

pub returns-in_err-spell_padded-clause-front : goal.returns-in_err-spell_padded-clause-front
returns-in_err-spell_padded-clause-front c =
    let front = behind _ _ c.args.out.now _ _ c.in_ok-append.ensures.ok c.in_err-spell_padded.ensures.front in
    let name = c.bytes-bytes.result.now in
    let text = entry_joined c.entry_head.result name c.args.fid c.entry_head.ensures in
    let whole = subst (λ (t : List ℕ). IsFront t c.args.out.now c.spell_padded.new.out) text front in
    anyway _ (subst (λ (n : List ℕ). IsFront (entry_text (n, c.args.fid)) c.args.out.now c.spell_padded.new.out) c.bytes-bytes.ensures.bytes whole)
