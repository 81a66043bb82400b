use Rattle.std.proofs.Common.{ℕ, List, sym, ap, ◌∙◌}
use Rattle.std.specs.FinMap.{FinMap}
use Rattle.std.specs.FinMap as map
use Rattle.tree_model.specs.Fids.{name_cmp}
use Rattle.tree_model.proofs.Maps.{got, names_total}
use Rattle.tree_model.proofs.node.Xattrs.get.Goals as goal

pub returns : goal.returns
returns c = c.get.ensures.value ∙ sym (got name_cmp names_total c.self.inside.inner.entries c.args.name.now) ∙ ap (λ (m : FinMap name_cmp (List ℕ)). map.get m c.args.name.now) c.self.view_is
