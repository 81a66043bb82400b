use Rattle.std.proofs.Common.{List, ℕ, None, sym, ap, ◌∙◌}
use Rattle.std.specs.Option.{option_map}
use Rattle.std.specs.FinMap.{entries}
use Rattle.fid_space.specs.declared.fid.Fid.{Fid}
use Rattle.tree_model.specs.Fids.{fid_cmp}
use Rattle.tree_model.proofs.Maps.{fids_total, exact_fids}
use Rattle.tree_model.proofs.Texts.{entries_again}
use Rattle.object_store.specs.Following.{behind, first_attribute, next_attribute}
use Rattle.object_store.proofs.objects.Objects.next_attribute.Goals as goal

pub returns-in-None : goal.returns-in-None
unfolding next_attribute
returns-in-None c =
    let same = sym (entries_again fid_cmp fids_total exact_fids c.inner.result.now.entries c.objects_behind.ensures.ordered) ∙ ap entries (sym c.inner.ensures) in
    c.first_attribute.ensures ∙ ap first_attribute (c.objects_behind.ensures.list ∙ ap (λ es. behind fid_cmp None es) same)
    ∙ ap (λ a. next_attribute c.args.self.now (option_map {U = Fid × List ℕ} (λ x. (x.0, x.1.now)) a)) (sym c.in-None.is)
