use Rattle.std.proofs.Common.{sym, ap, ◌∙◌}
use Rattle.std.specs.FinMap as map
use Rattle.tree_model.specs.Tree.{Names}
use Rattle.tree_model.specs.Fids.{name_cmp}
use Rattle.tree_model.proofs.Maps.{names_total, exact_names}
use Rattle.tree_model.proofs.Texts.{len_again}
use Rattle.tree_model.proofs.directory.Entries.len.Goals as goal

pub returns-clause-value : goal.returns-clause-value
returns-clause-value c = c.len.ensures.len ∙ sym (len_again name_cmp names_total exact_names c.self.inside.inner.entries c.len.ensures.ordered) ∙ ap (λ (m : Names). map.len m) c.self.view_is
