use Rattle.std.proofs.Common.{List, ℕ, subst}
use Rattle.object_store.specs.ImageText.{padded_text, attribute_text, IsFront}
use Rattle.object_store.proofs.Spelled.{attribute_joined}
use Rattle.object_store.proofs.Fronts.{anyway, nothing, behind, within}
use Rattle.object_store.proofs.spelling.spell_attribute.Goals as goal

pub returns-in_err-append-clause-front : goal.returns-in_err-append-clause-front
returns-in_err-append-clause-front c = anyway _ (nothing _ _ _ c.in_err-append.ensures.err)

pub returns-in_err-spell_padded-clause-front : goal.returns-in_err-spell_padded-clause-front
returns-in_err-spell_padded-clause-front c =
    let front = behind _ _ c.args.out.now _ _ c.in_ok-append.ensures.ok (within _ (padded_text c.args.value.now) _ _ c.in_err-spell_padded.ensures.front) in
    let name = c.bytes-bytes.result.now in
    let value = c.args.value.now in
    let text = attribute_joined c.attribute_head.result name value c.attribute_head.ensures in
    let whole = subst (λ (t : List ℕ). IsFront t c.args.out.now c.spell_padded.new.out) text front in
    anyway _ (subst (λ (n : List ℕ). IsFront (attribute_text (n, value)) c.args.out.now c.spell_padded.new.out) c.bytes-bytes.ensures.bytes whole)

pub returns-in_err-spell_padded-2-clause-front : goal.returns-in_err-spell_padded-2-clause-front
returns-in_err-spell_padded-2-clause-front c =
    let front = behind _ _ c.args.out.now _ _ c.in_ok-append.ensures.ok (behind _ _ _ _ _ c.in_ok-spell_padded.ensures.text c.in_err-spell_padded-2.ensures.front) in
    let name = c.bytes-bytes.result.now in
    let value = c.args.value.now in
    let text = attribute_joined c.attribute_head.result name value c.attribute_head.ensures in
    let whole = subst (λ (t : List ℕ). IsFront t c.args.out.now c.spell_padded-2.new.out) text front in
    anyway _ (subst (λ (n : List ℕ). IsFront (attribute_text (n, value)) c.args.out.now c.spell_padded-2.new.out) c.bytes-bytes.ensures.bytes whole)
