use Rattle.std.proofs.Common.{◌≡◌, List, ℕ}
use Rattle.std.specs.Option.{option_map}
use Rattle.fid_space.specs.declared.fid.Fid.{Fid}
use Rattle.share_tree.specs.Told.{all_entries}
use Rattle.share_tree.specs.Made.{with_entries}
use Rattle.share_tree.proofs.Following.{left_entries}
use Rattle.share_tree.proofs.adding.add_entries.Given as goal

abbrev pub invariant-loop-entry : goal.invariant-loop-entry
invariant-loop-entry l = record {
  rest : with_entries l.tree.tree (left_entries l.objects (option_map {U = Fid × List ℕ} (λ x. (x.0, x.1.now)) l.after)) ≡ with_entries l.initial.tree.tree (all_entries l.objects);
  targets : l.tree.targets ≡ l.initial.tree.targets;
}
