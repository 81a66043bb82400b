use Rattle.std.proofs.Common.{Some, refl, sym, ap, ◌∙◌}
use Rattle.std.specs.FinMap.{entries}
use Rattle.tree_model.specs.Fids.{fid_cmp}
use Rattle.tree_model.specs.Tree.{Grown}
use Rattle.tree_model.proofs.Maps.{fids_total}
use Rattle.object_store.specs.Following.{behind}
use Rattle.share_tree.specs.Made.{with_nodes}
use Rattle.share_tree.proofs.Suffixes.{all_behind}
use Rattle.share_tree.proofs.Walking.{node_on, node_end}
use Rattle.share_tree.proofs.nodes.add_nodes.Goals as goal

pub loop-node-init : goal.loop-node-init
loop-node-init c = record {
  rest = ap (λ es. with_nodes c.args.tree.now.tree es) (all_behind fids_total (entries c.args.objects.now));
  targets = refl;
}

pub loop-node-preserved : goal.loop-node-preserved
loop-node-preserved c =
    let m = c.args.objects.now in
    let added = c.in_ok-add_node-in-Some.ensures.ok in
    record {
      rest = ap (λ (g : Grown). with_nodes g.tree (behind fid_cmp (Some c.in-Some.fid) (entries m))) added
          ∙ node_on m c.loop-node.after c.in-Some.fid c.in-Some.told c.loop-node.tree.tree (sym c.in-Some.is ∙ c.next_node.ensures) ∙ c.loop-node.invariant.rest;
      targets = ap (λ (g : Grown). g.targets) added ∙ c.loop-node.invariant.targets;
    }

pub returns-in-None-clause-ok : goal.returns-in-None-clause-ok
returns-in-None-clause-ok c =
    let whole = sym (node_end c.args.objects.now c.loop-node.after c.loop-node.tree.tree (sym c.in-None.is ∙ c.next_node.ensures)) ∙ c.loop-node.invariant.rest in
    λ i. record { targets = c.loop-node.invariant.targets i; tree = whole i }
