use Rattle.std.proofs.Common.{◌≡◌, List, ℕ}
use Rattle.std.specs.Option.{option_map}
use Rattle.fid_space.specs.declared.fid.Fid.{Fid}
use Rattle.share_tree.specs.Told.{all_attributes}
use Rattle.share_tree.specs.Made.{with_attributes}
use Rattle.share_tree.proofs.Following.{left_attributes}
use Rattle.share_tree.proofs.adding.add_attributes.Given as goal

abbrev pub invariant-loop-attribute : goal.invariant-loop-attribute
invariant-loop-attribute l = record {
  rest : with_attributes l.tree.tree (left_attributes l.objects (option_map {U = Fid × List ℕ} (λ x. (x.0, x.1.now)) l.after)) ≡ with_attributes l.initial.tree.tree (all_attributes l.objects);
  targets : l.tree.targets ≡ l.initial.tree.targets;
}
