use Rattle.std.proofs.Common.{sym, ap, ◌∙◌, arith}
use Rattle.std.specs.FinMap.{len}
use Rattle.tree_model.specs.Fids.{fid_cmp}
use Rattle.tree_model.proofs.Maps.{fids_total, exact_fids}
use Rattle.tree_model.proofs.Texts.{len_again}
use Rattle.object_store.specs.Objects.{ObjectMap}
use Rattle.object_store.proofs.objects.Objects.count.Goals as goal

pub overflow_cast-result : goal.overflow_cast-result
overflow_cast-result c =
    let few = c.self.invariant.few in
    let is = c.len.ensures.len ∙ sym (len_again fid_cmp fids_total exact_fids c.self.inside.inner.entries c.len.ensures.ordered) in
    omega (arith, few, is)

pub returns : goal.returns
returns c = c.len.ensures.len ∙ sym (len_again fid_cmp fids_total exact_fids c.self.inside.inner.entries c.len.ensures.ordered) ∙ ap (λ (m : ObjectMap). len m) c.self.view_is
