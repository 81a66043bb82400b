use Rattle.std.proofs.Common.{ap, ◌∙◌}
use Rattle.std.specs.FinMap as map
use Rattle.tree_model.specs.Tree.{Names}
use Rattle.tree_model.specs.Fids.{name_cmp}
use Rattle.tree_model.proofs.Maps.{taken, names_total, exact_names}
use Rattle.tree_model.proofs.directory.Entries.remove.Goals as goal

pub returns : goal.returns
returns c =
    taken name_cmp names_total exact_names c.self.inside.inner.entries c.remove.new.self.entries c.args.name.now c.remove.ensures.updates.0
    ∙ ap (λ (m : Names). map.remove m c.args.name.now) c.self.view_is
