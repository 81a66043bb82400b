use Rattle.std.proofs.Common.{sym, ap, ◌∙◌}
use Rattle.std.specs.FinMap as map
use Rattle.tree_model.specs.Tree.{Names}
use Rattle.tree_model.specs.Fids.{name_cmp}
use Rattle.tree_model.proofs.Maps.{got, names_total}
use Rattle.tree_model.proofs.directory.Entries.get.Goals as goal

pub returns : goal.returns
returns c = c.copied.ensures ∙ c.get.ensures.value ∙ sym (got name_cmp names_total c.self.inside.inner.entries c.args.name.now) ∙ ap (λ (m : Names). map.get m c.args.name.now) c.self.view_is
