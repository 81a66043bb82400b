use Rattle.std.proofs.Common.{rules, ◌≡◌, ap, ◌∙◌}
use Rattle.std.specs.FinMap.{get}
use Rattle.tree_model.specs.Tree.{Grown, Tree}
use Rattle.tree_model.specs.Changes.{changed, changed_all, DropName, PutName}
use Rattle.tree_model.specs.Step.{replaced, moved_node}
use Rattle.tree_model.proofs.Changes.{moved_all}
use Rattle.tree_model.proofs.plain_tree.PlainTree.move_name.Goals as goal

pub returns-clause-ok : goal.returns-clause-ok
returns-clause-ok c =
    let t = c.args.self.now.tree in
    let after : Tree = changed_all (changed t (DropName c.args.parent c.args.name.now)) (replaced t c.args.old) in
    let new : Grown = record { targets = c.args.self.now.targets; tree = changed_all (changed after (PutName c.args.to_parent c.args.to_name.now c.args.moved)) (moved_node c.args.parent c.args.to_parent c.args.moved (get after.nodes c.args.moved)) } in
    let written : c.move_node.new.self ≡ new = search rules in
    written ∙ ap (λ (u : Tree). record { targets = c.args.self.now.targets; tree = u }) (moved_all t c.args.parent c.args.name.now c.args.to_parent c.args.to_name.now c.args.moved c.args.old c.requires)
