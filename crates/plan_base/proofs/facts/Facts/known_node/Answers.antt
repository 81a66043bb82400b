use Rattle.std.proofs.Common.{sym, ap, ◌∙◌}
use Rattle.std.specs.FinMap as map
use Rattle.tree_model.specs.Fids.{fid_cmp}
use Rattle.tree_model.proofs.Maps.{got, fids_total}
use Rattle.plan_base.specs.Told.{Told}
use Rattle.plan_base.proofs.facts.Facts.known_node.Goals as goal

pub returns : goal.returns
returns c = c.copied.ensures ∙ c.get.ensures.value ∙ sym (got fid_cmp fids_total c.self.inside.nodes.entries c.args.fid) ∙ ap (λ (t : Told). map.get t.nodes c.args.fid) c.self.view_is
