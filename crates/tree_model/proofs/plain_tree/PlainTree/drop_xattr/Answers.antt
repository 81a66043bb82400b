use Rattle.std.proofs.Common.{refl, sym, ap, subst, IsSome, ◌∙◌}
use Rattle.std.specs.Option.{option_copied_mut}
use Rattle.std.specs.FinMap.{get, remove}
use Rattle.tree_model.specs.Tree.{Grown}
use Rattle.tree_model.specs.Step.{changed_node}
use Rattle.tree_model.specs.declared.node.Node.{Node}
use Rattle.tree_model.specs.contracts.plain_tree.PlainTree.{the_view}
use Rattle.tree_model.proofs.Changes.{grown, changes_of, node_changed, node_missing}
use Rattle.tree_model.proofs.plain_tree.PlainTree.drop_xattr.Goals as goal
use Rattle.tree_model.proofs.plain_tree.PlainTree.drop_xattr.Goals.{in-Some, in_default}

pub returns : goal.returns
returns c =
    let change : Node → Node = λ n. record n { xattrs = remove n.xattrs c.args.name.now } in
    let nodes = c.self.inside.nodes.entries in
    let places = c.self.inside.directories.entries in
    let last = ap (λ (g : Grown). changes_of g (changed_node c.args.fid (get g.tree.nodes c.args.fid) change)) c.self.view_is in
    elim c.match-get_mut.branch [
      | in-Some w ↦
          let is = sym c.get_mut.ensures.value ∙ ap (λ o. option_copied_mut o) w.in-Some.is in
          let some = subst (λ o. IsSome o) (sym is) refl in
          let new : Node = record w.in-Some.node.now { xattrs = w.remove.new.self } in
          ap the_view w.self-inside-is
          ∙ node_changed c.self.inside.cluster nodes (c.get_mut.follows.lender new).entries places c.args.fid w.in-Some.node.now new change (ap (λ x. record w.in-Some.node.now { xattrs = x }) w.remove.ensures) is ((c.get_mut.follows.holds new).3 some).0 ∙ last
      | in_default w ↦
          let is = sym c.get_mut.ensures.value ∙ ap (λ o. option_copied_mut o) w.in_default.is in
          ap the_view w.self-inside-is ∙ ap (λ m. grown c.self.inside.cluster m.entries places) c.get_mut.follows.holds-at-none ∙ node_missing c.self.inside.cluster nodes places c.args.fid change is ∙ last
    ]
