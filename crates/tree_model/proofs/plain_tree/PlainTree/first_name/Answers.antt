use Rattle.std.proofs.Common.{ap, ◌∙◌}
use Rattle.std.specs.FinMap.{from_entries, insert, empty}
use Rattle.tree_model.specs.Tree.{Grown, Names, fid_cmp}
use Rattle.tree_model.proofs.Maps.{put, fids_total, exact_fids}
use Rattle.tree_model.proofs.plain_tree.PlainTree.first_name.Goals as goal

pub returns-clause-ok : goal.returns-clause-ok
returns-clause-ok c =
    let places = c.self.inside.directories.entries in
    let e = put fid_cmp fids_total exact_fids places c.insert-2.new.self.entries c.args.directory c.insert.new.self c.in_ok-insert-2.ensures.updates.0 in
    let one = c.in_ok-insert.ensures.ok ∙ ap (λ (k : Names). insert k c.args.name c.args.fid) c.new-entries.ensures in
    let all = e ∙ ap (λ (k : Names). insert (from_entries places) c.args.directory k) one in
    ap (λ es. record { targets = c.self.inside.cluster; tree = record { nodes = from_entries c.self.inside.nodes.entries; entries = es } }) all
    ∙ ap (λ (g : Grown). record { targets = g.targets; tree = record { nodes = g.tree.nodes; entries = insert g.tree.entries c.args.directory (insert empty c.args.name c.args.fid) } }) c.self.view_is
