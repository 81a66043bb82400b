use Rattle.std.proofs.Common.{ap, ◌∙◌}
use Rattle.tree_model.specs.Changes.{DropNode}
use Rattle.tree_model.proofs.Changes.{node_taken, change_of}
use Rattle.tree_model.proofs.plain_tree.PlainTree.drop_node.Goals as goal

pub returns : goal.returns
returns c =
    node_taken c.self.inside.cluster c.self.inside.nodes.entries c.remove.new.self.entries c.self.inside.directories.entries c.args.fid c.remove.ensures.updates.0
    ∙ ap (λ g. change_of g (DropNode c.args.fid)) c.self.view_is
