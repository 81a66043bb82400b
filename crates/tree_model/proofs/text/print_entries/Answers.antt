use Rattle.std.proofs.Common.{subst, ◌≡◌, rules}
use Rattle.std.specs.List.{flat_map}
use Rattle.std.specs.Map.Iter.{deref_pair}
use Rattle.std.proofs.lemmas.Map.Iter.{rest_more, rest_all}
use Rattle.tree_model.specs.TreeText.{names_text}
use Rattle.tree_model.proofs.Fronts.{SoFar, anyway, begun, more, ended, stopped_in}
use Rattle.tree_model.proofs.text.print_entries.Goals as goal

pub loop-directory-init : goal.loop-directory-init
loop-directory-init c =
    let all : c.into_iter-directory-iterator.result ≡ c.args.directories.now.entries = search rules in
    subst (λ es. SoFar c.args.out.now c.args.out.now (flat_map names_text c.into_iter-directory-iterator.result) (flat_map names_text es)) all (begun _ _)

pub loop-directory-preserved : goal.loop-directory-preserved
loop-directory-preserved c =
    let left = rest_more deref_pair c.loop-directory.directory-iterator c.next.new.self c.next.result (c.in-Some.directory, c.in-Some.entries) c.in-Some.is c.next.ensures.steps in
    let s = subst (λ es. SoFar c.args.out.now c.loop-directory.out (flat_map names_text es) (flat_map names_text c.args.directories.now.entries)) left c.loop-directory.invariant in
    more _ _ _ _ _ _ s c.in_ok-print_names.ensures.ok

pub returns-in_err-print_names-clause-front : goal.returns-in_err-print_names-clause-front
returns-in_err-print_names-clause-front c =
    let left = rest_more deref_pair c.loop-directory.directory-iterator c.next.new.self c.next.result (c.in-Some.directory, c.in-Some.entries) c.in-Some.is c.next.ensures.steps in
    let s = subst (λ es. SoFar c.args.out.now c.loop-directory.out (flat_map names_text es) (flat_map names_text c.args.directories.now.entries)) left c.loop-directory.invariant in
    anyway _ (stopped_in _ _ _ _ _ _ s c.in_err-print_names.ensures.front)

pub returns-clause-ok : goal.returns-clause-ok
returns-clause-ok c =
    let none = rest_all deref_pair c.loop-directory.directory-iterator c.next.new.self c.next.result c.in-None.is c.next.ensures.steps in
    ended _ _ _ (subst (λ es. SoFar c.args.out.now c.loop-directory.out (flat_map names_text es) (flat_map names_text c.args.directories.now.entries)) none c.loop-directory.invariant)
