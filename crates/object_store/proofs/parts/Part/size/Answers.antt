use Rattle.std.proofs.Common.{◌+◌, length, sym, ap, ◌∙◌}
use Rattle.object_store.specs.declared.parts.Part.{Part}
use Rattle.object_store.specs.Pieces.{part_text}
use Rattle.object_store.proofs.Spelled.{entry_text_length, attribute_text_length}
use Rattle.object_store.proofs.PartTexts.{count_length, head_length}
use Rattle.object_store.proofs.parts.Part.size.Goals as goal

pub returns-in-Count-clause-value : goal.returns-in-Count-clause-value
returns-in-Count-clause-value c = sym (count_length c.in-Count.field-0) ∙ ap (λ (p : Part). length (part_text p)) (sym c.in-Count.is)

pub returns-in-Head-clause-value : goal.returns-in-Head-clause-value
returns-in-Head-clause-value c = sym (head_length c.in-Head.field-0 c.in-Head.field-1.now) ∙ ap (λ (p : Part). length (part_text p)) (sym c.in-Head.is)

pub returns-in-Entry-clause-value : goal.returns-in-Entry-clause-value
returns-in-Entry-clause-value c =
    ap (λ n. 24 + n) c.name_size.ensures.value ∙ sym (entry_text_length (c.in-Entry.name.now, c.in-Entry.field-1)) ∙ ap (λ (p : Part). length (part_text p)) (sym c.in-Entry.is)

pub returns-in-Attribute-clause-value : goal.returns-in-Attribute-clause-value
returns-in-Attribute-clause-value c =
    c.attribute_size.ensures.value ∙ sym (attribute_text_length (c.in-Attribute.name.now, c.in-Attribute.value.now)) ∙ ap (λ (p : Part). length (part_text p)) (sym c.in-Attribute.is)
