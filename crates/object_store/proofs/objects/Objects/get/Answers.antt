use Rattle.std.proofs.Common.{sym, ap, ◌∙◌}
use Rattle.std.specs.FinMap.{get}
use Rattle.tree_model.specs.Fids.{fid_cmp}
use Rattle.tree_model.proofs.Maps.{got, fids_total}
use Rattle.object_store.specs.Objects.{ObjectMap}
use Rattle.object_store.proofs.objects.Objects.get.Goals as goal

pub returns : goal.returns
returns c = c.get.ensures.value ∙ sym (got fid_cmp fids_total c.self.inside.inner.entries c.args.fid) ∙ ap (λ (m : ObjectMap). get m c.args.fid) c.self.view_is
