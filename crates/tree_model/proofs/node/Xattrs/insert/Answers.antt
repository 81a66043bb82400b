use Rattle.std.proofs.Common.{ℕ, List, ap, ◌∙◌}
use Rattle.std.specs.FinMap as map
use Rattle.std.specs.FinMap.{FinMap}
use Rattle.tree_model.specs.Fids.{name_cmp}
use Rattle.tree_model.proofs.Maps.{put, names_total, exact_names}
use Rattle.tree_model.proofs.node.Xattrs.insert.Goals as goal

pub returns-clause-ok : goal.returns-clause-ok
returns-clause-ok c =
    put name_cmp names_total exact_names c.self.inside.inner.entries c.insert.new.self.entries c.args.name c.args.value c.in_ok-insert.ensures.updates.0
    ∙ ap (λ (m : FinMap name_cmp (List ℕ)). map.insert m c.args.name c.args.value) c.self.view_is
