use Rattle.std.proofs.Common.{◌≡◌, ℕ, List, ◌++◌, sym, ap, ◌∙◌, append_assoc, append-nil}
use Rattle.std.specs.List.{flat_map}
use Rattle.std.specs.Map.Iter.{deref_pair}
use Rattle.std.specs.FinMap.{entries}
use Rattle.std.proofs.lemmas.Map.Iter.{rest_more}
use Rattle.fid_space.specs.declared.fid.Fid.{Fid}
use Rattle.tree_model.specs.Fids.{name_cmp}
use Rattle.tree_model.specs.Tree.{Names}
use Rattle.tree_model.proofs.Maps.{names_total, exact_names}
use Rattle.tree_model.proofs.Texts.{entries_again}
use Rattle.plan_base.specs.Updates.{Placed}
use Rattle.plan_base.specs.Planning.{moved_entry}
use Rattle.dir_migrate.specs.Migrations.{migration_of}
use Rattle.dir_migrate.proofs.moves.move_all.Goals as goal

pub loop-name-preserved : goal.loop-name-preserved
loop-name-preserved c =
    let move = moved_entry (migration_of c.args.plan.now.targets c.args.plan.now.batch c.args.m) in
    let more = rest_more deref_pair c.loop-name.name-iterator c.next.new.self c.next.result (c.in-Some.name, c.in-Some.child) c.in-Some.is c.next.ensures.steps in
    let placed = c.loop-name.placed in
    ap (λ (ps : List Placed). ps ++ flat_map move c.next.new.self) c.in_ok-move_entry.ensures
    ∙ append_assoc placed (move (c.in-Some.name.now, c.in-Some.child.now)) (flat_map move c.next.new.self)
    ∙ ap (λ rest. placed ++ flat_map move rest) (sym more) ∙ c.loop-name.invariant

pub returns : goal.returns
returns c =
    let move = moved_entry (migration_of c.args.plan.now.targets c.args.plan.now.batch c.args.m) in
    let placed = c.loop-name.placed in
    let sorted = c.inner-sorted.result.now.entries in
    let gives : ◌≡◌ {A = List (List ℕ × Fid)} c.into_iter-name-iterator.result sorted = c.into_iter-name-iterator.ensures.into_iter_gives.0 in
    sym (append-nil placed) ∙ ap (λ rest. placed ++ flat_map move rest) (sym c.in-None.ensures.steps.0) ∙ c.loop-name.invariant
    ∙ ap (λ rest. flat_map move rest) gives
    ∙ ap (λ es. flat_map move es) (sym (entries_again name_cmp names_total exact_names sorted c.len-len.ensures.ordered))
    ∙ ap (λ (m : Names). flat_map move (entries m)) (sym c.inner-sorted.ensures)
