use Rattle.std.proofs.Common.{subst, ◌≡◌, rules}
use Rattle.std.specs.List.{flat_map}
use Rattle.std.specs.Map.Iter.{deref_pair}
use Rattle.std.proofs.lemmas.Map.Iter.{rest_more, rest_all}
use Rattle.tree_model.specs.TreeText.{node_text}
use Rattle.tree_model.proofs.Fronts.{SoFar, anyway, begun, more, ended, stopped}
use Rattle.tree_model.proofs.text.print_nodes.Goals as goal

pub loop-fid-init : goal.loop-fid-init
loop-fid-init c =
    let all : c.into_iter-fid-iterator.result ≡ c.args.nodes.now.entries = search rules in
    subst (λ es. SoFar c.args.out.now c.args.out.now (flat_map node_text c.into_iter-fid-iterator.result) (flat_map node_text es)) all (begun _ _)

pub loop-fid-preserved : goal.loop-fid-preserved
loop-fid-preserved c =
    let left = rest_more deref_pair c.loop-fid.fid-iterator c.next.new.self c.next.result (c.in-Some.fid, c.in-Some.node) c.in-Some.is c.next.ensures.steps in
    let s = subst (λ es. SoFar c.args.out.now c.loop-fid.out (flat_map node_text es) (flat_map node_text c.args.nodes.now.entries)) left c.loop-fid.invariant in
    more _ _ _ _ _ _ s c.in_ok-print_node.ensures.ok

pub returns-in_err-print_node-clause-front : goal.returns-in_err-print_node-clause-front
returns-in_err-print_node-clause-front c =
    let left = rest_more deref_pair c.loop-fid.fid-iterator c.next.new.self c.next.result (c.in-Some.fid, c.in-Some.node) c.in-Some.is c.next.ensures.steps in
    let s = subst (λ es. SoFar c.args.out.now c.loop-fid.out (flat_map node_text es) (flat_map node_text c.args.nodes.now.entries)) left c.loop-fid.invariant in
    anyway _ (stopped _ _ _ _ _ s c.in_err-print_node.ensures.err)

pub returns-clause-ok : goal.returns-clause-ok
returns-clause-ok c =
    let none = rest_all deref_pair c.loop-fid.fid-iterator c.next.new.self c.next.result c.in-None.is c.next.ensures.steps in
    ended _ _ _ (subst (λ es. SoFar c.args.out.now c.loop-fid.out (flat_map node_text es) (flat_map node_text c.args.nodes.now.entries)) none c.loop-fid.invariant)
