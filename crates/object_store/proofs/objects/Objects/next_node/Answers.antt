use Rattle.std.proofs.Common.{sym, ap, ◌∙◌}
use Rattle.std.specs.FinMap.{entries}
use Rattle.tree_model.specs.Fids.{fid_cmp}
use Rattle.tree_model.proofs.Maps.{fids_total, exact_fids}
use Rattle.tree_model.proofs.Texts.{entries_again}
use Rattle.object_store.specs.Following.{behind, first_node, next_node}
use Rattle.object_store.proofs.objects.Objects.next_node.Goals as goal

pub returns : goal.returns
unfolding next_node
returns c =
    let same = sym (entries_again fid_cmp fids_total exact_fids c.inner.result.now.entries c.objects_behind.ensures.ordered) ∙ ap entries (sym c.inner.ensures) in
    c.first_node.ensures ∙ ap first_node c.objects_behind.ensures.list ∙ ap (λ es. first_node (behind fid_cmp c.args.after es)) same
