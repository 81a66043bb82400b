use Rattle.std.proofs.Common.{◌≡◌, ◌+◌, ◌-◌, ◌++◌, List, ℕ, length, sym, ap, ◌∙◌, append_assoc}
use Rattle.object_store.specs.ImageText.{padded_text, attribute_text}
use Rattle.object_store.specs.Sizes.{padded}
use Rattle.object_store.proofs.Laid.{joined}
use Rattle.object_store.proofs.Spelled.{attribute_joined}
use Rattle.object_store.proofs.PartTexts.{front_length}
use Rattle.object_store.proofs.parts.copy_attribute.Goals as goal

pub returns : goal.returns
returns c =
    let name = c.bytes-bytes.result.now in
    let head = c.attribute_head-head.result in
    let value = c.args.value.now in
    let before : length (head ++ padded_text name) ≡ 8 + c.name_size.result =
    front_length head name _ _ c.attribute_head-head.ensures ∙ ap (λ (n : List ℕ). 8 + padded (length n)) c.bytes-bytes.ensures.bytes ∙ ap (λ n. 8 + n) (sym c.name_size.ensures.value) in
    let text = append_assoc head (padded_text name) (padded_text value) ∙ attribute_joined head name value c.attribute_head-head.ensures ∙ ap (λ (n : List ℕ). attribute_text (n, value)) c.bytes-bytes.ensures.bytes in
    joined _ _ _ _ _ _ _ _ _ _ c.copy_two-first.ensures c.copy_padded-second.ensures (c.saturating_sub.ensures ∙ ap (λ n. c.args.skip - n) (sym before)) text
