use Rattle.std.proofs.Common.{subst, ◌≡◌, rules}
use Rattle.std.specs.List.{flat_map}
use Rattle.std.specs.Map.Iter.{deref_pair}
use Rattle.std.proofs.lemmas.Map.Iter.{rest_more, rest_all}
use Rattle.tree_model.specs.TreeText.{entry_text}
use Rattle.tree_model.proofs.Fronts.{SoFar, anyway, begun, more, ended, stopped}
use Rattle.tree_model.proofs.text.print_name_list.Goals as goal

pub loop-name-init : goal.loop-name-init
loop-name-init c =
    let all : c.into_iter-name-iterator.result ≡ c.args.names.now.entries = search rules in
    subst (λ es. SoFar c.args.out.now c.args.out.now (flat_map (entry_text c.args.directory) c.into_iter-name-iterator.result) (flat_map (entry_text c.args.directory) es)) all (begun _ _)

pub loop-name-preserved : goal.loop-name-preserved
loop-name-preserved c =
    let left = rest_more deref_pair c.loop-name.name-iterator c.next.new.self c.next.result (c.in-Some.name, c.in-Some.fid) c.in-Some.is c.next.ensures.steps in
    let s = subst (λ es. SoFar c.args.out.now c.loop-name.out (flat_map (entry_text c.args.directory) es) (flat_map (entry_text c.args.directory) c.args.names.now.entries)) left c.loop-name.invariant in
    more _ _ _ _ _ _ s c.in_ok-print_entry.ensures.ok

pub returns-in_err-print_entry-clause-front : goal.returns-in_err-print_entry-clause-front
returns-in_err-print_entry-clause-front c =
    let left = rest_more deref_pair c.loop-name.name-iterator c.next.new.self c.next.result (c.in-Some.name, c.in-Some.fid) c.in-Some.is c.next.ensures.steps in
    let s = subst (λ es. SoFar c.args.out.now c.loop-name.out (flat_map (entry_text c.args.directory) es) (flat_map (entry_text c.args.directory) c.args.names.now.entries)) left c.loop-name.invariant in
    anyway _ (stopped _ _ _ _ _ s c.in_err-print_entry.ensures.err)

pub returns-clause-ok : goal.returns-clause-ok
returns-clause-ok c =
    let none = rest_all deref_pair c.loop-name.name-iterator c.next.new.self c.next.result c.in-None.is c.next.ensures.steps in
    ended _ _ _ (subst (λ es. SoFar c.args.out.now c.loop-name.out (flat_map (entry_text c.args.directory) es) (flat_map (entry_text c.args.directory) c.args.names.now.entries)) none c.loop-name.invariant)
