use Rattle.std.proofs.Common.{ap, ◌∙◌}
use Rattle.tree_model.specs.Changes.{PutNode}
use Rattle.tree_model.proofs.Changes.{node_put, change_of}
use Rattle.tree_model.proofs.plain_tree.PlainTree.put_node.Goals as goal

pub returns-clause-ok : goal.returns-clause-ok
returns-clause-ok c =
    node_put c.self.inside.cluster c.self.inside.nodes.entries c.insert.new.self.entries c.self.inside.directories.entries c.args.fid c.args.node c.in_ok-insert.ensures.updates.0
    ∙ ap (λ g. change_of g (PutNode c.args.fid c.args.node)) c.self.view_is
