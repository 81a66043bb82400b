use Rattle.std.proofs.Common.{sym, ap, ◌∙◌}
use Rattle.std.specs.FinMap as map
use Rattle.tree_model.specs.Tree.{Grown, fid_cmp}
use Rattle.tree_model.proofs.Maps.{got, fids_total}
use Rattle.tree_model.proofs.plain_tree.PlainTree.node.Goals as goal

pub returns : goal.returns
returns c = c.get.ensures.value ∙ sym (got fid_cmp fids_total c.self.inside.nodes.entries c.args.fid) ∙ ap (λ (g : Grown). map.get g.tree.nodes c.args.fid) c.self.view_is
