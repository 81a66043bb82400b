use Rattle.std.proofs.Common.{◌≤◌, ◌++◌, ℕ, List, length, IfSome, sym, ap, subst, ◌∙◌}
use Rattle.std.specs.List.{flat_map, AllByRecursion}
use Rattle.std.specs.FinMap.{entries, get}
use Rattle.tree_model.specs.Tree.{Names}
use Rattle.tree_model.specs.Fids.{name_cmp}
use Rattle.tree_model.proofs.Maps.{names_total, exact_names}
use Rattle.tree_model.proofs.Texts.{entries_again}
use Rattle.object_store.specs.Objects.{Attributes}
use Rattle.object_store.specs.ImageText.{entry_text, attribute_text}
use Rattle.object_store.proofs.Spelled.{all_short}
use Rattle.object_store.proofs.parts.Items.of.Goals as goal

pub returns-clause-text : goal.returns-clause-text
returns-clause-text c =
    let es = ap (λ (m : Names). entries m) (sym c.entries.ensures.value ∙ c.inner.ensures) ∙ entries_again name_cmp names_total exact_names c.inner.result.now.entries c.iter.ensures.ordered in
    let xs = ap (λ (m : Attributes). entries m) (sym c.attributes.ensures.value ∙ c.inner-2.ensures) ∙ entries_again name_cmp names_total exact_names c.inner-2.result.now.entries c.iter-2.ensures.ordered in
    ap (λ l. flat_map entry_text l ++ flat_map attribute_text c.iter-2.result) (c.iter.ensures.rest ∙ sym es)
    ∙ ap (λ l. flat_map entry_text (entries c.args.object.now.entries) ++ flat_map attribute_text l) (c.iter-2.ensures.rest ∙ sym xs)

pub returns-clause-fits : goal.returns-clause-fits
returns-clause-fits c =
    subst (AllByRecursion (λ (a : List ℕ × List ℕ). length a.1 ≤ 4096)) (sym c.iter-2.ensures.rest)
    (all_short c.inner-2.result.now c.iter-2.ensures.ordered (λ name. subst (λ (m : Attributes). IfSome (get m name) (λ v. length v ≤ 4096)) (sym c.attributes.ensures.value ∙ c.inner-2.ensures) (c.attributes.ensures.short name)))
