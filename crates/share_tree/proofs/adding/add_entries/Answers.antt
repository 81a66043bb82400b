use Rattle.std.proofs.Common.{List, ℕ, Some, refl, sym, ap, ◌∙◌}
use Rattle.std.specs.Option.{option_map}
use Rattle.fid_space.specs.declared.fid.Fid.{Fid}
use Rattle.tree_model.specs.Tree.{Grown}
use Rattle.object_store.specs.Following.{Entry}
use Rattle.share_tree.specs.Made.{with_entries}
use Rattle.share_tree.proofs.Following.{left_entries}
use Rattle.share_tree.proofs.Walking.{entry_step, entry_end}
use Rattle.share_tree.proofs.adding.add_entries.Goals as goal

pub loop-entry-init : goal.loop-entry-init
loop-entry-init c = record { rest = refl; targets = refl }

pub loop-entry-preserved : goal.loop-entry-preserved
loop-entry-preserved c =
    let m = c.args.objects.now in
    let after = option_map {U = Fid × List ℕ} (λ x. (x.0, x.1.now)) c.loop-entry.after in
    let name = c.in-Some.name.now in
    let added = c.in_ok-add_entry-in-Some.ensures.ok in
    let next = ap (λ o. option_map {U = Entry} (λ x. (x.0, x.1, x.2.now, x.3)) o) (sym c.in-Some.is) ∙ c.next_entry.ensures in
    record {
      rest = ap (λ (g : Grown). with_entries g.tree (left_entries m (Some (c.in-Some.object, name)))) added
          ∙ entry_step m after (c.in-Some.object, c.in-Some.directory, name, c.in-Some.child) c.loop-entry.tree.tree next ∙ c.loop-entry.invariant.rest;
      targets = ap (λ (g : Grown). g.targets) added ∙ c.loop-entry.invariant.targets;
    }

pub returns-in-None-clause-ok : goal.returns-in-None-clause-ok
returns-in-None-clause-ok c =
    let after = option_map {U = Fid × List ℕ} (λ x. (x.0, x.1.now)) c.loop-entry.after in
    let next = ap (λ o. option_map {U = Entry} (λ x. (x.0, x.1, x.2.now, x.3)) o) (sym c.in-None.is) ∙ c.next_entry.ensures in
    let whole = sym (entry_end c.args.objects.now after c.loop-entry.tree.tree next) ∙ c.loop-entry.invariant.rest in
    λ i. record { targets = c.loop-entry.invariant.targets i; tree = whole i }
