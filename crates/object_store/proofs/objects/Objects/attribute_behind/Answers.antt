use Rattle.std.proofs.Common.{Option, Some, sym, ap, ◌∙◌}
use Rattle.std.specs.Option.{option_map}
use Rattle.std.specs.FinMap.{entries}
use Rattle.tree_model.specs.Fids.{fid_cmp}
use Rattle.tree_model.proofs.Maps.{fids_total, exact_fids}
use Rattle.tree_model.proofs.Texts.{entries_again}
use Rattle.object_store.specs.Objects.{Object}
use Rattle.object_store.specs.Following.{Attribute, behind, or_else, first_attribute, attribute_there, next_attribute}
use Rattle.object_store.proofs.objects.Objects.attribute_behind.Goals as goal

pub returns-in-None : goal.returns-in-None
unfolding next_attribute
returns-in-None c =
    let same = sym (entries_again fid_cmp fids_total exact_fids c.inner.result.now.entries c.objects_behind.ensures.ordered) ∙ ap entries (sym c.inner.ensures) in
    let there = ap (λ (o : Option Object). attribute_there c.args.fid c.args.name.now o) (sym c.get.ensures) ∙ sym c.attribute_there.ensures ∙ ap (λ o. option_map {U = Attribute} (λ x. (x.0, x.1.now, x.2.now)) o) c.in-None.is in
    c.first_attribute.ensures ∙ ap first_attribute (c.objects_behind.ensures.list ∙ ap (λ es. behind fid_cmp (Some c.args.fid) es) same)
    ∙ ap (λ o. or_else o (first_attribute (behind fid_cmp (Some c.args.fid) (entries c.args.self.now)))) (sym there)
