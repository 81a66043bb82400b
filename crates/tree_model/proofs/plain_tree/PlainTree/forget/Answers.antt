use Rattle.std.proofs.Common.{ap, ◌∙◌}
use Rattle.std.specs.FinMap.{from_entries, remove}
use Rattle.tree_model.specs.Tree.{Grown, fid_cmp}
use Rattle.tree_model.proofs.Maps.{taken, fids_total, exact_fids}
use Rattle.tree_model.proofs.plain_tree.PlainTree.forget.Goals as goal

pub returns : goal.returns
returns c =
    let e = taken fid_cmp fids_total exact_fids c.self.inside.directories.entries c.remove.new.self.entries c.args.directory c.remove.ensures.updates.0 in
    ap (λ es. record { targets = c.self.inside.cluster; tree = record { nodes = from_entries c.self.inside.nodes.entries; entries = es } }) e
    ∙ ap (λ (g : Grown). record { targets = g.targets; tree = record { nodes = g.tree.nodes; entries = remove g.tree.entries c.args.directory } }) c.self.view_is
