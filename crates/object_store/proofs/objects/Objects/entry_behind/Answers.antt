use Rattle.std.proofs.Common.{Option, Some, sym, ap, ◌∙◌}
use Rattle.std.specs.Option.{option_map}
use Rattle.std.specs.FinMap.{entries}
use Rattle.tree_model.specs.Fids.{fid_cmp}
use Rattle.tree_model.proofs.Maps.{fids_total, exact_fids}
use Rattle.tree_model.proofs.Texts.{entries_again}
use Rattle.object_store.specs.Objects.{Object}
use Rattle.object_store.specs.Following.{Entry, behind, or_else, first_entry, entry_there, next_entry}
use Rattle.object_store.proofs.objects.Objects.entry_behind.Goals as goal

pub returns-in-None : goal.returns-in-None
unfolding next_entry
returns-in-None c =
    let same = sym (entries_again fid_cmp fids_total exact_fids c.inner.result.now.entries c.objects_behind.ensures.ordered) ∙ ap entries (sym c.inner.ensures) in
    let there = ap (λ (o : Option Object). entry_there c.args.fid c.args.name.now o) (sym c.get.ensures) ∙ sym c.entry_there.ensures ∙ ap (λ o. option_map {U = Entry} (λ x. (x.0, x.1, x.2.now, x.3)) o) c.in-None.is in
    c.first_entry.ensures ∙ ap first_entry (c.objects_behind.ensures.list ∙ ap (λ es. behind fid_cmp (Some c.args.fid) es) same)
    ∙ ap (λ o. or_else o (first_entry (behind fid_cmp (Some c.args.fid) (entries c.args.self.now)))) (sym there)
