use Rattle.std.proofs.Common.{◌≤◌, ◌<◌, ◌^◌, ℕ, List, length, IfSome, refl, sym, ap, subst, ◌∙◌, rules}
use Rattle.std.specs.List.{flat_map, AllByRecursion}
use Rattle.std.specs.FinMap.{entries, get, len}
use Rattle.tree_model.specs.Tree.{Names}
use Rattle.tree_model.specs.Fids.{name_cmp}
use Rattle.tree_model.proofs.Maps.{names_total, exact_names}
use Rattle.tree_model.proofs.Texts.{entries_again}
use Rattle.fid_space.specs.FidText.{IsFid}
use Rattle.object_store.specs.declared.body.Body.{Body}
use Rattle.object_store.specs.Objects.{Attributes}
use Rattle.object_store.specs.ImageText.{attribute_text, FitsEntry, FitsAttribute, IsFront}
use Rattle.object_store.proofs.Spelled.{all_short, object_joined}
use Rattle.object_store.proofs.Fronts.{anyway, nothing, behind, within, in_three}
use Rattle.object_store.proofs.spelling.spell_object.Goals as goal

pub spell_attributes-requires : goal.spell_attributes-requires
spell_attributes-requires c =
    λ ordered. all_short c.inner-2.result.now ordered (λ name. subst (λ (m : Attributes). IfSome (get m name) (λ v. length v ≤ 4096)) (sym c.attributes-attributes.ensures.value ∙ c.inner-2.ensures) (c.attributes-attributes.ensures.short name))

pub returns-in_err-append-clause-front : goal.returns-in_err-append-clause-front
returns-in_err-append-clause-front c = anyway _ (nothing _ _ _ c.in_err-append.ensures.err)

pub returns-in_err-spell_entries-clause-front : goal.returns-in_err-spell_entries-clause-front
returns-in_err-spell_entries-clause-front c =
    let es = ap (λ (m : Names). entries m) (sym c.entries-entries.ensures.value ∙ c.inner.ensures) ∙ entries_again name_cmp names_total exact_names c.inner.result.now.entries c.spell_entries.ensures.ordered in
    let others = entries c.args.object.now.attributes in
    let text = object_joined c.object_head.result c.args.fid c.args.object.now c.whole-body.result c.len.result c.len-2.result c.inner.result.now.entries others
    c.object_head.ensures (c.whole-body.ensures.value ∙ c.body.ensures.value) (c.len.ensures.value ∙ ap (λ (m : Names). len m) c.entries-entries.ensures.value) (c.len-2.ensures.value ∙ ap (λ (m : Attributes). len m) c.attributes-attributes.ensures.value)
    es refl in
    let front = behind c.object_head.result _ c.args.out.now _ _ c.in_ok-append.ensures.ok (within _ (flat_map attribute_text others) _ _ c.in_err-spell_entries.ensures.front) in
    anyway _ (subst (λ (t : List ℕ). IsFront t c.args.out.now c.spell_entries.new.out) text front)

pub returns-in_err-spell_attributes-clause-front : goal.returns-in_err-spell_attributes-clause-front
returns-in_err-spell_attributes-clause-front c =
    let es = ap (λ (m : Names). entries m) (sym c.entries-entries.ensures.value ∙ c.inner.ensures) ∙ entries_again name_cmp names_total exact_names c.inner.result.now.entries c.spell_entries.ensures.ordered in
    let xs = ap (λ (m : Attributes). entries m) (sym c.attributes-attributes.ensures.value ∙ c.inner-2.ensures) ∙ entries_again name_cmp names_total exact_names c.inner-2.result.now.entries c.spell_attributes.ensures.ordered in
    let text = object_joined c.object_head.result c.args.fid c.args.object.now c.whole-body.result c.len.result c.len-2.result c.inner.result.now.entries c.inner-2.result.now.entries
    c.object_head.ensures (c.whole-body.ensures.value ∙ c.body.ensures.value) (c.len.ensures.value ∙ ap (λ (m : Names). len m) c.entries-entries.ensures.value) (c.len-2.ensures.value ∙ ap (λ (m : Attributes). len m) c.attributes-attributes.ensures.value)
    es xs in
    let front = behind c.object_head.result _ c.args.out.now _ _ c.in_ok-append.ensures.ok (behind _ _ _ _ _ c.in_ok-spell_entries.ensures.text c.in_err-spell_attributes.ensures.front) in
    anyway _ (subst (λ (t : List ℕ). IsFront t c.args.out.now c.spell_attributes.new.out) text front)

pub returns-clause-text : goal.returns-clause-text
returns-clause-text c =
    let es = ap (λ (m : Names). entries m) (sym c.entries-entries.ensures.value ∙ c.inner.ensures) ∙ entries_again name_cmp names_total exact_names c.inner.result.now.entries c.spell_entries.ensures.ordered in
    let xs = ap (λ (m : Attributes). entries m) (sym c.attributes-attributes.ensures.value ∙ c.inner-2.ensures) ∙ entries_again name_cmp names_total exact_names c.inner-2.result.now.entries c.spell_attributes.ensures.ordered in
    let text = object_joined c.object_head.result c.args.fid c.args.object.now c.whole-body.result c.len.result c.len-2.result c.inner.result.now.entries c.inner-2.result.now.entries
    c.object_head.ensures (c.whole-body.ensures.value ∙ c.body.ensures.value) (c.len.ensures.value ∙ ap (λ (m : Names). len m) c.entries-entries.ensures.value) (c.len-2.ensures.value ∙ ap (λ (m : Attributes). len m) c.attributes-attributes.ensures.value)
    es xs in
    in_three _ _ _ _ _ _ _ _ c.in_ok-append.ensures.ok c.in_ok-spell_entries.ensures.text c.in_ok-spell_attributes.ensures.text text

pub returns-clause-fits : goal.returns-clause-fits
returns-clause-fits c =
    let es = ap (λ (m : Names). entries m) (sym c.entries-entries.ensures.value ∙ c.inner.ensures) ∙ entries_again name_cmp names_total exact_names c.inner.result.now.entries c.spell_entries.ensures.ordered in
    let xs = ap (λ (m : Attributes). entries m) (sym c.attributes-attributes.ensures.value ∙ c.inner-2.ensures) ∙ entries_again name_cmp names_total exact_names c.inner-2.result.now.entries c.spell_attributes.ensures.ordered in
    record {
      fid = search rules;
      body = c.body.ensures.allowed;
      owner = subst (λ (b : Body). (b.uid < 2 ^ 32) × (b.gid < 2 ^ 32)) c.body.ensures.value c.whole-body.ensures.owner;
      other = subst (λ (b : Body). IsFid b.fid) c.body.ensures.value c.whole-body.ensures.other;
      few_entries = c.entries-entries.ensures.few;
      few_attributes = c.attributes-attributes.ensures.few;
      each_entry = subst (AllByRecursion FitsEntry) (sym es) c.in_ok-spell_entries.ensures.fits;
      each_attribute = subst (AllByRecursion FitsAttribute) (sym xs) c.in_ok-spell_attributes.ensures.fits;
    }
