use Rattle.std.proofs.Common.{◌≡◌, ◌||◌, drop, map}
use Rattle.std.specs.List.{list_any}
use Rattle.std.specs.BTreeSet.{contains}
use Rattle.update_recovery.specs.declared.found.Found.{Found}
use Rattle.update_recovery.specs.Live.{found_cmp}
use Rattle.update_recovery.specs.Union.{is_logged}
use Rattle.update_recovery.proofs.bounds.Bounds.of_targets.Given as goal

abbrev pub invariant-loop-node : goal.invariant-loop-node
invariant-loop-node g l =
    (k : Found)
    → (list_any (is_logged l.self.epoch l.self.marks.items k) (map (λ n. n.state) (drop l.node-index l.nodes)) || contains found_cmp l.found k)
    ≡ list_any (is_logged l.self.epoch l.self.marks.items k) (map (λ n. n.state) l.nodes)
